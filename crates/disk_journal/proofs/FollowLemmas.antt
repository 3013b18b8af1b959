-- Following one more record.
use Rattle.std.proofs.Common.{◌≡◌, ℕ, ◌+◌, ◌<◌, ◌≤◌, ◌^◌, inl, inr, List, [], ◌∷◌, ◌++◌, length, take, drop, get_or, refl, sym, ◌∙◌, ap, subst, arith, length-append, length-drop}
use Rattle.std.proofs.lemmas.List.{drop_more, drop-drop, map-append, length-take-le}
use Rattle.disk_journal.specs.declared.spans.Span.{Span}
use Rattle.disk_journal.specs.Records.{sized, records, AreSized, EndsBefore, IsDamagedBehind, placed}
use Rattle.disk_journal.specs.Bodies.{body_at, bodies_in, places_in}
use Rattle.disk_journal.specs.Following.{Reaches}
use Rattle.disk_journal.proofs.RecordLemmas.{opened, sized-push, length-sized, length-records-push}

placed-push : (at : ℕ) (bodies : List (List ℕ)) (body : List ℕ) → placed at (bodies ++ body ∷ []) ≡ placed at bodies ++ (at + length (records bodies), body) ∷ []
placed-push at [] body = ap (λ n. (n, body) ∷ []) (omega arith)
placed-push at (b ∷ bodies) body =
    ap (λ (l : List (ℕ × List ℕ)). (at, b) ∷ l) (placed-push (at + 5 + length b) bodies body
    ∙ ap (λ n. placed (at + 5 + length b) bodies ++ (n, body) ∷ []) (omega (arith, length-sized b, length-append (sized b) (records bodies))))

pub begins : (file : List ℕ) → Reaches file [] 0
begins file = record { whole = refl; sizes = tt; place = refl; behind = inl refl; places = refl }

no_records : (bodies : List (List ℕ)) → length (records bodies) ≡ 0 → bodies ≡ []
no_records [] none = refl
no_records (b ∷ bodies) none = absurd (omega arith)

module _ (file : List ℕ) (spans : List Span) (at : ℕ) (reaches : Reaches file spans at) (within : at < length file) (gate : get_or file at 0 ≡ 165) where
  tail : drop at file ≡ 165 ∷ drop (at + 1) file
  tail = drop_more file at 0 within ∙ ap (λ g. g ∷ drop (at + 1) file) gate

  pub goes_on : (size : ℕ) (text : List ℕ) (next : List Span) (span : Span) → text ≡ drop (at + 1) file → text ≡ sized (take size (drop 4 text)) ++ drop (4 + size) text → 4 + size < length text → size < 2 ^ 32
      → span.gate ≡ at → span.size ≡ size → next ≡ spans ++ span ∷ [] → Reaches file next (at + (5 + size))
  goes_on size text next span is whole room small here long more =
      let B = bodies_in file spans in
      let b = body_at file span in
      let R = drop (at + (5 + size)) file in
      let body_is : take size (drop 4 text) ≡ b =
      ap (λ (l : List ℕ). take size (drop 4 l)) is ∙ ap (λ (l : List ℕ). take size l) (drop-drop 4 (at + 1) file)
      ∙ ap (λ n. take size (drop n file)) (omega arith) ∙ ap (λ n. take n (drop (span.gate + 5) file)) (sym long) in
      let rest_is : drop (4 + size) text ≡ R = ap (λ (l : List ℕ). drop (4 + size) l) is ∙ drop-drop (4 + size) (at + 1) file ∙ ap (λ n. drop n file) (omega arith) in
      let text_is : drop (at + 1) file ≡ sized b ++ R = sym is ∙ whole ∙ ap (λ (l : List ℕ). sized l ++ drop (4 + size) text) body_is ∙ ap (λ (l : List ℕ). sized b ++ l) rest_is in
      let long_b : length b ≡ size = ap length (sym body_is) ∙ length-take-le size (drop 4 text) (omega (arith, length-drop 4 text)) in
      let bodies_are : bodies_in file next ≡ B ++ b ∷ [] = ap (bodies_in file) more ∙ map-append (body_at file) spans (span ∷ []) in
      let whole_is : file ≡ records (B ++ b ∷ []) ++ R =
      reaches.whole ∙ ap (λ (l : List ℕ). records B ++ l) (tail ∙ ap (λ (l : List ℕ). 165 ∷ l) text_is) ∙ opened [] B b R in
      let size_b : length b < 2 ^ 32 = subst (λ n. n < 2 ^ 32) (sym long_b) small in
      record {
        whole = whole_is ∙ ap (λ (l : List (List ℕ)). records l ++ R) (sym bodies_are);
        sizes = subst AreSized (sym bodies_are) (sized-push B b reaches.sizes size_b);
        place = omega (arith, long_b, reaches.place, length-records-push B b) ∙ ap (λ (l : List (List ℕ)). length (records l)) (sym bodies_are);
        behind = inr (omega (arith, ap length is, length-drop (at + 1) file));
        places = ap (places_in file) more ∙ map-append (λ s. (s.gate, body_at file s)) spans (span ∷ []) ∙ ap (λ (l : List (ℕ × List ℕ)). l ++ (span.gate, b) ∷ []) reaches.places
            ∙ ap (λ n. placed 0 B ++ (n, b) ∷ []) (omega (arith, reaches.place)) ∙ sym (placed-push 0 B b) ∙ ap (placed 0) (sym bodies_are);
      }

  pub blank : at ≡ 0 → length file < 6 → EndsBefore (bodies_in file spans) (drop at file)
  blank first short =
      subst (EndsBefore (bodies_in file spans)) (sym tail) (inr (no_records (bodies_in file spans) (omega (arith, reaches.place)), omega (arith, length-drop (at + 1) file)))

  pub damaged : (text : List ℕ) → text ≡ drop (at + 1) file → ((body more : List ℕ) → length body < 2 ^ 32 → text ≡ sized body ++ more → more ≡ []) → (at ≡ 0 → 6 ≤ length file) → IsDamagedBehind [] file (bodies_in file spans) at
  damaged text is none long = (
    record {
      bodies = bodies_in file spans;
      rest = text;
      whole = reaches.whole ∙ ap (λ (l : List ℕ). records (bodies_in file spans) ++ l) (tail ∙ ap (λ (l : List ℕ). 165 ∷ l) (sym is));
      sizes = reaches.sizes;
      at = omega (arith, reaches.place);
      broken = none;
      some = λ empty. let first : at ≡ 0 = reaches.place ∙ ap (λ (l : List (List ℕ)). length (records l)) empty in
          let six = long first in omega (arith, ap length is, length-drop (at + 1) file);
    },
    refl,
  )
