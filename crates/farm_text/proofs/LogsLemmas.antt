-- How a log grows over several calls.
use Rattle.std.proofs.Common.{List, [], ◌++◌, Option, Some, None, sym, ◌∙◌, ap, append_assoc, append-nil}
use Rattle.farm_text.specs.Logs.{LogGrows}

-- nothing was told
pub LogGrows-none : {A : Type 0} (log : Option (List A)) → LogGrows log log []
LogGrows-none None = tt
LogGrows-none (Some told) = sym (append-nil told)

-- one call after another
pub LogGrows-then : {A : Type 0} (before between after : Option (List A)) (xs ys : List A) → LogGrows before between xs → LogGrows between after ys → LogGrows before after (xs ++ ys)
LogGrows-then before between None xs ys first second = tt
LogGrows-then None (Some b) (Some c) xs ys first second = absurd first
LogGrows-then before None (Some c) xs ys first second = absurd second
LogGrows-then (Some a) (Some b) (Some c) xs ys first second =
    second ∙ (ap (λ zs. zs ++ ys) first ∙ append_assoc a xs ys)
