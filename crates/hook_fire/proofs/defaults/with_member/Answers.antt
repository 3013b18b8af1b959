use Rattle.std.proofs.Common.{◌≡◌, ◌∙◌, sym, rules}
use Rattle.farm_text.specs.Document.{text}
use Rattle.farm_text.specs.declared.doc.Doc.{the_lemmas}
use Rattle.farm_text.specs.declared.doc.Doc.TheVariants.{Text as TextDoc}
use Rattle.farm_text.specs.Doc.{document}
use Rattle.farm_text.proofs.DocLemmas.{document-Map, members_in}
use Rattle.hook_fire.proofs.DefaultLemmas.{is_there, is_put}
use Rattle.hook_fire.proofs.defaults.with_member.Goals as goal

pub returns-then-has_key : goal.returns-then-has_key
returns-then-has_key c =
    is_there c.args.key.now c.args.moment (members_in c.args.members.entries) _ (sym c.has_key.ensures ∙ c.if-has_key.true) (document-Map c.args.members)

pub returns : goal.returns
returns c =
    let said : document (TextDoc c.in_ok-text.text) ≡ text c.in_ok-text.text = search (rules, the_lemmas) in
    is_put c.args.key.now c.in_ok-text.text c.args.moment (members_in c.args.members.entries) (members_in c.insert.new.members.entries) (document (TextDoc c.in_ok-text.text)) _ (sym c.has_key.ensures ∙ c.if-has_key.false) c.in_ok-text.ensures said
    c.in_ok-insert.ensures (document-Map c.insert.new.members)
