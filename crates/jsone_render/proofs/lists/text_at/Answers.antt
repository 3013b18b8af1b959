use Rattle.std.proofs.Common.{◌≡◌, ℕ, List, Bor, Option, Some, None, MatchOption, sym, subst}
use Rattle.farm_text.specs.Document.{Document, member_at, text}
use Rattle.farm_text.specs.Doc.{document}
use Rattle.farm_text.proofs.DocLemmas.{members_in}
use Rattle.jsone_render.specs.Answers.{IsNoText}
use Rattle.jsone_render.proofs.lists.text_at.Goals as goal

of_member : (r : Option (Bor (List ℕ))) (d : Document) (x : Option Document) → x ≡ Some d → MatchOption r (IsNoText (Some d)) (λ bs. d ≡ text bs.now) → MatchOption r (IsNoText x) (λ bs. x ≡ Some (text bs.now))
of_member None d x e h = subst IsNoText (sym e) h
of_member (Some bs) d x e h = rw (e, h)

pub returns-in-Some : goal.returns-in-Some
returns-in-Some c = of_member c.as_text.result (document c.in-Some.member.now) (member_at c.args.key.now (members_in c.args.members.now.entries)) c.in-Some.ensures c.as_text.ensures

pub returns-in-None : goal.returns-in-None
returns-in-None c = subst IsNoText (sym c.in-None.ensures) tt
