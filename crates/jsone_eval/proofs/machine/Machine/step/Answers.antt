use Rattle.std.proofs.Common.{◌≡◌, pos, Ok, refl, ap}
use Rattle.jsone_values.specs.Numbers.{IsInRange, digits_from}
use Rattle.jsone_values.specs.Operators.{IsNumber}
use Rattle.jsone_eval.specs.Machine.{values_in, parts_in}
use Rattle.jsone_eval.specs.Scopes.{scopes_of}
use Rattle.jsone_eval.specs.Values.{Setting, bytes_at, text_at, quoted, literal_value, named}
use Rattle.jsone_eval.proofs.MachineLemmas.{pays_for, of_kind}
use Rattle.jsone_eval.proofs.machine.Machine.step.Goals as goal

pub returns-in-Number : goal.returns-in-Number
returns-in-Number c =
    let self = c.args.self.now in
    let s : Setting = record { source = c.args.text.now; scopes = scopes_of c.args.context.now } in
    of_kind s c.args.node _ (values_in self) (parts_in self) self.passed self.spent c.pay.result c.pay.new.self c.in-Number.is
    (pays_for (IsNumber (IsInRange (pos (digits_from 0 (bytes_at c.args.text.now c.in-Number.place))))) c.number_at.result (values_in self) (parts_in self) self.passed self.spent c.pay.result c.pay.new.self c.number_at.ensures c.pay.ensures)

pub returns-in-Text : goal.returns-in-Text
returns-in-Text c =
    let self = c.args.self.now in
    let s : Setting = record { source = c.args.text.now; scopes = scopes_of c.args.context.now } in
    of_kind s c.args.node _ (values_in self) (parts_in self) self.passed self.spent c.pay-in-Text.result c.pay-in-Text.new.self c.in-Text.is
    (pays_for (λ r. r ≡ quoted (text_at c.args.text.now c.in-Text.place)) c.quoted.result (values_in self) (parts_in self) self.passed self.spent c.pay-in-Text.result c.pay-in-Text.new.self c.quoted.ensures c.pay-in-Text.ensures)

pub returns-in-Literal : goal.returns-in-Literal
returns-in-Literal c =
    let self = c.args.self.now in
    let s : Setting = record { source = c.args.text.now; scopes = scopes_of c.args.context.now } in
    of_kind s c.args.node _ (values_in self) (parts_in self) self.passed self.spent c.pay-in-Literal.result c.pay-in-Literal.new.self c.in-Literal.is
    (pays_for (λ r. r ≡ Ok (literal_value c.in-Literal.literal)) (Ok c.literal_value.result) (values_in self) (parts_in self) self.passed self.spent c.pay-in-Literal.result c.pay-in-Literal.new.self (ap (λ d. Ok d) c.literal_value.ensures) c.pay-in-Literal.ensures)

pub returns-in-Name : goal.returns-in-Name
returns-in-Name c =
    let self = c.args.self.now in
    let s : Setting = record { source = c.args.text.now; scopes = scopes_of c.args.context.now } in
    of_kind s c.args.node _ (values_in self) (parts_in self) self.passed self.spent c.pay-in-Name.result c.pay-in-Name.new.self c.in-Name.is
    (pays_for (λ r. r ≡ named s.scopes (text_at c.args.text.now c.in-Name.word.span)) c.named.result (values_in self) (parts_in self) self.passed self.spent c.pay-in-Name.result c.pay-in-Name.new.self c.named.ensures c.pay-in-Name.ensures)

pub returns-in-Unary : goal.returns-in-Unary
returns-in-Unary c =
    let self = c.args.self.now in
    let s : Setting = record { source = c.args.text.now; scopes = scopes_of c.args.context.now } in
    of_kind s c.args.node _ (values_in self) (parts_in self) self.passed self.spent c.sign.result c.sign.new.self c.in-Unary.is (c.sign.ensures s)

pub returns-in-Left : goal.returns-in-Left
returns-in-Left c =
    let self = c.args.self.now in
    let s : Setting = record { source = c.args.text.now; scopes = scopes_of c.args.context.now } in
    of_kind s c.args.node _ (values_in self) (parts_in self) self.passed self.spent c.decide.result c.decide.new.self c.in-Left.is (c.decide.ensures s)

pub returns-in-Binary : goal.returns-in-Binary
returns-in-Binary c =
    let self = c.args.self.now in
    let s : Setting = record { source = c.args.text.now; scopes = scopes_of c.args.context.now } in
    of_kind s c.args.node _ (values_in self) (parts_in self) self.passed self.spent c.join.result c.join.new.self c.in-Binary.is (c.join.ensures s)

pub returns-in-Group : goal.returns-in-Group
returns-in-Group c =
    let self = c.args.self.now in
    let s : Setting = record { source = c.args.text.now; scopes = scopes_of c.args.context.now } in
    of_kind s c.args.node _ (values_in self) (parts_in self) self.passed self.spent c.group.result c.group.new.self c.in-Group.is (c.group.ensures s)

pub returns-in-Member : goal.returns-in-Member
returns-in-Member c =
    let self = c.args.self.now in
    let s : Setting = record { source = c.args.text.now; scopes = scopes_of c.args.context.now } in
    of_kind s c.args.node _ (values_in self) (parts_in self) self.passed self.spent c.member.result c.member.new.self c.in-Member.is (c.member.ensures s refl)

pub returns-in-Index : goal.returns-in-Index
returns-in-Index c =
    let self = c.args.self.now in
    let s : Setting = record { source = c.args.text.now; scopes = scopes_of c.args.context.now } in
    of_kind s c.args.node _ (values_in self) (parts_in self) self.passed self.spent c.index.result c.index.new.self c.in-Index.is (c.index.ensures s)

pub returns-in-Slice : goal.returns-in-Slice
returns-in-Slice c =
    let self = c.args.self.now in
    let s : Setting = record { source = c.args.text.now; scopes = scopes_of c.args.context.now } in
    of_kind s c.args.node _ (values_in self) (parts_in self) self.passed self.spent c.slice.result c.slice.new.self c.in-Slice.is (c.slice.ensures s)

pub returns-in-Begin : goal.returns-in-Begin
returns-in-Begin c =
    let self = c.args.self.now in
    let s : Setting = record { source = c.args.text.now; scopes = scopes_of c.args.context.now } in
    of_kind s c.args.node _ (values_in self) (parts_in self) self.passed self.spent c.begin.result c.begin.new.self c.in-Begin.is (c.begin.ensures s)

pub returns-in-Item : goal.returns-in-Item
returns-in-Item c =
    let self = c.args.self.now in
    let s : Setting = record { source = c.args.text.now; scopes = scopes_of c.args.context.now } in
    of_kind s c.args.node _ (values_in self) (parts_in self) self.passed self.spent c.gather_item.result c.gather_item.new.self c.in-Item.is (c.gather_item.ensures s)

pub returns-in-Call : goal.returns-in-Call
returns-in-Call c =
    let self = c.args.self.now in
    let s : Setting = record { source = c.args.text.now; scopes = scopes_of c.args.context.now } in
    of_kind s c.args.node _ (values_in self) (parts_in self) self.passed self.spent c.call.result c.call.new.self c.in-Call.is (c.call.ensures s refl)

pub returns-in-Items : goal.returns-in-Items
returns-in-Items c =
    let self = c.args.self.now in
    let s : Setting = record { source = c.args.text.now; scopes = scopes_of c.args.context.now } in
    of_kind s c.args.node _ (values_in self) (parts_in self) self.passed self.spent c.close_list.result c.close_list.new.self c.in-Items.is (c.close_list.ensures s)

pub returns-in-Field : goal.returns-in-Field
returns-in-Field c =
    let self = c.args.self.now in
    let s : Setting = record { source = c.args.text.now; scopes = scopes_of c.args.context.now } in
    of_kind s c.args.node _ (values_in self) (parts_in self) self.passed self.spent c.gather_member.result c.gather_member.new.self c.in-Field.is (c.gather_member.ensures s refl)

pub returns-in-Entries : goal.returns-in-Entries
returns-in-Entries c =
    let self = c.args.self.now in
    let s : Setting = record { source = c.args.text.now; scopes = scopes_of c.args.context.now } in
    of_kind s c.args.node _ (values_in self) (parts_in self) self.passed self.spent c.close_map.result c.close_map.new.self c.in-Entries.is (c.close_map.ensures s)
