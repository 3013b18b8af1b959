-- Where an expression in a text ends, and what is left behind it.
use Rattle.std.proofs.Common.{◌≡◌, ℕ, ◌+◌, ◌<◌, List, ◌∷◌, ◌++◌, length, take, drop, slice_index, Bool, true, suc, Some, None, refl, sym, ap, subst, ◌∙◌, arith, length-append, add-one, drop-cons}
use Rattle.std.proofs.Math.Seq.{get_or-append_seam, drop-append-add}
use Rattle.std.specs.Bool.{MatchBool}
use Rattle.std.specs.Str.{IsUtf8, IsCharBoundary}
use Rattle.std.proofs.lemmas.Bool.{MatchBool-at_true}
use Rattle.std.proofs.lemmas.List.{take-append-drop, length-take, take_at}
use Rattle.std.proofs.lemmas.Str.{IsCharBoundary-after_ascii}
use Rattle.jsone_values.specs.Splits.{IsFirstCut}
use Rattle.jsone_render.specs.Expressions.{HasTree}
use Rattle.jsone_render.specs.Texts.{IsShortest}
use Rattle.jsone_render.specs.declared.ends.Place.TheVariants.{Outside}
use Rattle.jsone_render.specs.Ends as Ends
use Rattle.jsone_render.specs.Answers.{StandsIn, EndsOnlyAt}
use Rattle.jsone_render.proofs.BracketLemmas.{onward, start, tree_ends, only_here}

spelled_at : (behind : List ℕ) (end : ℕ) → end < length behind → slice_index behind end ≡ 125 → behind ≡ take end behind ++ 125 ∷ drop (end + 1) behind
spelled_at behind end less curly =
    sym (take-append-drop end behind)
    ∙ ap (λ l. take end behind ++ l) (drop-cons behind end 0 less ∙ ap (λ b. b ∷ drop (suc end) behind) curly ∙ ap (λ k. 125 ∷ drop k behind) (sym (add-one end)))

shortest_at : (behind : List ℕ) (end : ℕ) → EndsOnlyAt behind (Some end) → HasTree (take end behind) → IsShortest behind (take end behind)
shortest_at behind end only has = record {
  has_tree = has;
  first = λ i less curly other. let same = only.2 i (omega (arith, length-take end behind, only.0)) curly other in absurd (omega (arith, length-take end behind));
}

-- what stands before the one `}` is the expression, if it has a tree
pub stands_before : (behind source : List ℕ) (end : ℕ) (is : Bool) → EndsOnlyAt behind (Some end) → source ≡ take end behind → is ≡ true → MatchBool is (HasTree source) (¬ HasTree source) → StandsIn behind source
stands_before behind source end is only cut positive tested =
    let has : HasTree source = MatchBool-at_true (HasTree source) (¬ HasTree source) positive tested in
    subst (StandsIn behind) (sym cut) (drop (end + 1) behind, spelled_at behind end only.0 only.1, shortest_at behind end only (subst HasTree cut has))

-- an expression ends only before the `}` behind it
pub stands_there : (behind source rest : List ℕ) → HasTree source → behind ≡ source ++ 125 ∷ rest → StandsIn behind source
stands_there behind source rest has e =
    let n = length source in
    let long : n < length behind = let size = ap length e in omega (arith, size, length-append source (125 ∷ rest)) in
    let curly : slice_index behind n ≡ 125 = ap (λ l. slice_index l n) e ∙ get_or-append_seam source 125 rest 0 in
    let front : take n behind ≡ source = ap (take n) e ∙ take_at source (125 ∷ rest) n refl in
    let here : onward (take n behind) start ≡ start = ap (λ l. onward l start) front ∙ tree_ends source has in
    let stop : Ends.behind (slice_index behind n) (Outside 0) ≡ None = ap (λ b. Ends.behind b (Outside 0)) curly in (
      rest,
      e,
      record {
        has_tree = has;
        first = λ i less other tree. let same = only_here behind n (Outside 0) long here stop i (omega (arith, less, long)) other tree in absurd (omega (arith, less, same));
      },
    )

-- what is left behind it
pub left_there : (behind source rest : List ℕ) → StandsIn behind source → rest ≡ drop (length source + 1) behind → (behind ≡ source ++ 125 ∷ rest) × IsShortest behind source
left_there behind source rest (more, e, shortest) left =
    let same : rest ≡ more = left ∙ ap (drop (length source + 1)) e ∙ drop-append-add source (125 ∷ more) 1 in
    (e ∙ ap (λ l. source ++ 125 ∷ l) (sym same), shortest)

-- the text may be cut behind the `}`
pub behind_curly : (behind source : List ℕ) (end : ℕ) → IsUtf8 behind → StandsIn behind source → end ≡ length source → IsCharBoundary behind (end + 1)
behind_curly behind source end utf8 (rest, e, shortest) size =
    let long = ap length e in
    let curly : slice_index behind (length source) ≡ 125 = ap (λ l. slice_index l (length source)) e ∙ get_or-append_seam source 125 rest 0 in
    subst (λ n. IsCharBoundary behind (n + 1)) (sym size) (IsCharBoundary-after_ascii behind (length source) utf8 (omega (arith, long, length-append source (125 ∷ rest))) (omega (arith, curly)))

-- less is left behind a separator
pub less_left : (sep rest piece next : List ℕ) → IsFirstCut sep rest piece next → 0 < length sep → length next < length rest
less_left sep rest piece next cut some =
    let size = ap length cut.spelled in
    omega (arith, size, length-append piece (sep ++ next), length-append sep next)

pub less_behind : (sep rest piece behind source next : List ℕ) → IsFirstCut sep rest piece behind → 0 < length sep → behind ≡ source ++ 125 ∷ next → length next < length rest
less_behind sep rest piece behind source next cut some e =
    let size = ap length e in
    let less = less_left sep rest piece behind cut some in
    omega (arith, size, length-append source (125 ∷ next))
