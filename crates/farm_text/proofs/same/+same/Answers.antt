use Rattle.std.proofs.Common.{sym, ap, ◌∙◌}
use Rattle.farm_text.proofs.SameLemmas.{kind_of, not_same, no_null, no_bool, no_int, no_text, no_list, no_map}
use Rattle.farm_text.proofs.same.+same.Goals as goal

pub same_doc-returns-in_default : goal.same_doc-returns-in_default
same_doc-returns-in_default t c = not_same c.args.a.now c.args.b.now (λ e. no_null c.args.b.now c.in_default.not-Null (sym e ∙ ap kind_of c.in-Null.is))

pub same_doc-returns-in_default-b : goal.same_doc-returns-in_default-b
same_doc-returns-in_default-b t c = not_same c.args.a.now c.args.b.now (λ e. no_bool c.args.b.now c.in_default-b.not-Bool (sym e ∙ ap kind_of c.in-Bool.is))

pub same_doc-returns-in_default-b-2 : goal.same_doc-returns-in_default-b-2
same_doc-returns-in_default-b-2 t c = not_same c.args.a.now c.args.b.now (λ e. no_int c.args.b.now c.in_default-b-2.not-Int (sym e ∙ ap kind_of c.in-Int.is))

pub same_doc-returns-in_default-b-3 : goal.same_doc-returns-in_default-b-3
same_doc-returns-in_default-b-3 t c = not_same c.args.a.now c.args.b.now (λ e. no_text c.args.b.now c.in_default-b-3.not-Text (sym e ∙ ap kind_of c.in-Text.is))

pub same_doc-returns-in_default-b-4 : goal.same_doc-returns-in_default-b-4
same_doc-returns-in_default-b-4 t c = not_same c.args.a.now c.args.b.now (λ e. no_list c.args.b.now c.in_default-b-4.not-List (sym e ∙ ap kind_of c.in-List.is))

pub same_doc-returns-in_default-b-5 : goal.same_doc-returns-in_default-b-5
same_doc-returns-in_default-b-5 t c = not_same c.args.a.now c.args.b.now (λ e. no_map c.args.b.now c.in_default-b-5.not-Map (sym e ∙ ap kind_of c.in-Map.is))
