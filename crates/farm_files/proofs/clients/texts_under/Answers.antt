use Rattle.std.proofs.Common.{◌≡◌, List, ℕ, Bor, Option, Some, None, map, true, false, refl, ap, subst}
use Rattle.std.specs.Prelude.{IfOk, MatchOption}
use Rattle.toml.specs.Data.{Data}
use Rattle.toml.proofs.Views.{table_get}
use Rattle.farm_files.specs.Values.{are_texts, passes, texts_in}
use Rattle.farm_files.proofs.clients.texts_under.Goals as goal

pub returns-in-None : goal.returns-in-None
returns-in-None c =
    let e = table_get None c.args.key.now c.args.table.now.entries c.in-None.ensures.value in
    rw (← e) (refl, ap (λ (ts : List (Bor (List ℕ))). map (λ t. t.now) ts) c.new.ensures.items)

pub returns-in-Some : goal.returns-in-Some
returns-in-Some c =
    let e = table_get (Some c.in-Some.value) c.args.key.now c.args.table.now.entries c.in-Some.ensures.value in
    let P : Option Data → Type 0 = λ o. IfOk c.texts_at.result (λ found. MatchOption found (passes are_texts o ≡ false) (λ texts. (passes are_texts o ≡ true) × (map (λ t. t.now) texts.items ≡ texts_in o))) in
    subst P e c.texts_at.ensures
