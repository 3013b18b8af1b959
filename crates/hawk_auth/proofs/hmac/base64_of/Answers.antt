use Rattle.std.proofs.Common.{◌<◌, ℕ, List, sym, subst, arith, rules}
use Rattle.std.specs.List.{All}
use Rattle.std.proofs.lemmas.Grind.{common_steps}
use Rattle.std.proofs.lemmas.List.{get_or_default}
use Rattle.hawk_auth.specs.Header.{IsValueByte}
use Rattle.hawk_auth.proofs.SignLemmas.{plain_text}
use Rattle.hawk_auth.proofs.hmac.base64_of.Goals as goal

pub returns-clause-value : goal.returns-clause-value
returns-clause-value c = first_of (search rules, grind (arith, common_steps))

pub returns-clause-plain : goal.returns-clause-plain
returns-clause-plain c =
    let digest : List ℕ = c.args.digest.now in
    let bytes : All (λ b. b < 256) digest = λ k d lt. subst (λ (b : ℕ). b < 256) (get_or_default digest k 0 d lt) (let f = c.fits-digest k in omega (arith, f)) in
    subst (All IsValueByte) (sym (returns-clause-value c)) (plain_text digest bytes)
