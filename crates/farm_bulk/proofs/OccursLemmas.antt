-- Where a needle stands in what is made of parts.
use Rattle.std.proofs.Common.{◌≡◌, ℕ, ◌+◌, List, ◌++◌, length, None, ◌∙◌, arith, length-append}
use Rattle.std.proofs.lemmas.List.{get_or_append_left, get_or-append-add}
use Rattle.memchr.specs.Find.{OccursAt, FindsNeedle}

pub OccursAt-front : (needle rest : List ℕ) → OccursAt (needle ++ rest) needle 0
OccursAt-front needle rest = record {
  fits = omega (arith, length-append needle rest);
  reads = λ j within. let place : 0 + j ≡ j = omega arith in rw place (get_or_append_left needle rest 0 j within);
}

pub OccursAt-later : (front hay needle : List ℕ) (k : ℕ) → OccursAt hay needle k → OccursAt (front ++ hay) needle (length front + k)
OccursAt-later front hay needle k occurs = record {
  fits = omega (arith, length-append front hay, occurs.fits);
  reads = λ j within. let place : length front + k + j ≡ length front + (k + j) = omega arith in rw place (get_or-append-add front hay (k + j) 0 ∙ occurs.reads j within);
}

pub OccursAt-earlier : (hay rest needle : List ℕ) (k : ℕ) → OccursAt hay needle k → OccursAt (hay ++ rest) needle k
OccursAt-earlier hay rest needle k occurs = record {
  fits = omega (arith, length-append hay rest, occurs.fits);
  reads = λ j within. get_or_append_left hay rest 0 (k + j) (omega (arith, occurs.fits)) ∙ occurs.reads j within;
}

-- what is not found stands nowhere
pub never_found : (hay needle : List ℕ) (k : ℕ) → FindsNeedle hay needle 0 None → OccursAt hay needle k → ⊥
never_found hay needle k nowhere occurs = nowhere k (omega arith) (omega (arith, occurs.fits)) occurs
