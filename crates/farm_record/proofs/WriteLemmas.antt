-- What is written, joined.
use Rattle.std.proofs.Common.{◌≡◌, ℕ, List, [], ◌∷◌, ◌++◌, ap, ◌∙◌, append_assoc}
use Rattle.task_types.specs.declared.change.Kind.{Kind}
use Rattle.task_types.specs.declared.change.Kind.TheVariants as kinds
use Rattle.farm_record.specs.Records.{HasFields, IsFullText, IsDefinitionText, IsSaid}
use Rattle.farm_record.specs.Writing.{IsWrittenText}

pub four : (a m g w r p q s t : List ℕ) → p ≡ a ++ m → q ≡ p ++ g → s ≡ q ++ w → t ≡ s ++ r → t ≡ a ++ (m ++ (g ++ (w ++ r)))
four a m g w r p q s t one two three last =
    last ∙ ap (λ (l : List ℕ). l ++ r) (three ∙ ap (λ (l : List ℕ). l ++ w) (two ∙ ap (λ (l : List ℕ). l ++ g) one))
    ∙ append_assoc ((a ++ m) ++ g) w r ∙ append_assoc (a ++ m) g (w ++ r) ∙ append_assoc a m (g ++ (w ++ r))

pub whole : (o p q r m f : List ℕ) (n k : ℕ) → o ≡ [] → p ≡ o ++ n ∷ [] → n ≡ k → q ≡ p ++ m → r ≡ q ++ f → r ≡ k ∷ (m ++ f)
whole o p q r m f n k none first number second last =
    last ∙ ap (λ (l : List ℕ). l ++ f) (second ∙ ap (λ (l : List ℕ). l ++ m) (first ∙ ap (λ (l : List ℕ). l ++ n ∷ []) none)) ∙ ap (λ (b : ℕ). b ∷ (m ++ f)) number

pub full_fields : (k : Kind) (f : List ℕ) → HasFields IsWrittenText k f → HasFields IsFullText k f
full_fields kinds.Tick f x = x
full_fields (kinds.Create c) f x = (x.0, (x.1.0, x.1.1.full, x.1.2))
full_fields (kinds.Schedule a) f x = x
full_fields (kinds.Rerun a) f x = x
full_fields (kinds.Cancel a) f x = x
full_fields (kinds.Claim a) f x = x
full_fields (kinds.Reclaim a) f x = x
full_fields (kinds.Resolve a) f x = x

pub said_fields : (k : Kind) (f : List ℕ) → IsSaid k → HasFields IsWrittenText k f → HasFields IsDefinitionText k f
said_fields kinds.Tick f said x = x
said_fields (kinds.Create c) f said x = (x.0, (x.1.0, x.1.1.said said, x.1.2))
said_fields (kinds.Schedule a) f said x = x
said_fields (kinds.Rerun a) f said x = x
said_fields (kinds.Cancel a) f said x = x
said_fields (kinds.Claim a) f said x = x
said_fields (kinds.Reclaim a) f said x = x
said_fields (kinds.Resolve a) f said x = x
