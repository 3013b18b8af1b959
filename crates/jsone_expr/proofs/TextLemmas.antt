-- A text has one list of tokens, and so one tree or one bad place.
use Rattle.std.proofs.Common.{◌≡◌, ℕ, ◌-◌, ◌<◌, List, [], ◌∷◌, length, take, drop, Some, refl, sym, ap, ◌∙◌, subst, arith, ⊎_elim}
use Rattle.std.proofs.lemmas.Bool.{cases_lt}
use Rattle.std.proofs.lemmas.List.{length-drop}
use Rattle.jsone_expr.specs.declared.tokens.Token.{Token}
use Rattle.jsone_expr.specs.declared.tokens.Piece.{Piece}
use Rattle.jsone_expr.specs.Tokens.{token_at, IsLongest, BeginsNone, IsToken, IsUnknown, AreTokens}
use Rattle.jsone_expr.specs.Trees.{Tree}
use Rattle.jsone_expr.specs.Grammar.{IsExpression, IsBadPlace}
use Rattle.jsone_expr.specs.Texts.{token_list, IsTree, IsBadByte, place_of}
use Rattle.jsone_expr.proofs.Complete.{one_tree}
use Rattle.jsone_expr.proofs.Readings.{one_bad_place}

not_longer : (at : ℕ) (bytes : List ℕ) (x y : Token) (n m : ℕ) → IsLongest at bytes x n → IsLongest at bytes y m → n < m → ⊥
not_longer at bytes x y n m a b h = let none = a.longest m h b.within in let some = b.spelled in cc

same_length : (at : ℕ) (bytes : List ℕ) (x y : Token) (n m : ℕ) → IsLongest at bytes x n → IsLongest at bytes y m → n ≡ m
same_length at bytes x y n m a b = ⊎_elim (λ lt. absurd (not_longer at bytes x y n m a b lt)) (λ ge. ⊎_elim (λ gt. absurd (not_longer at bytes y x m n b a gt)) (λ le. omega arith) (cases_lt m n)) (cases_lt n m)

-- the longest token is one
pub one_longest : (at : ℕ) (bytes : List ℕ) (x y : Token) (n m : ℕ) → IsLongest at bytes x n → IsLongest at bytes y m → (x ≡ y) × (n ≡ m)
one_longest at bytes x y n m a b =
    let same = same_length at bytes x y n m a b in
    let left = a.spelled in
    let right = b.spelled in
    (cc, same)

abbrev piece : Token → ℕ → ℕ → Piece
piece x from to = record { token = x; span = record { from = from; to = to } }

same_piece : (p q : Piece) → p.token ≡ q.token → p.span.from ≡ q.span.from → p.span.to ≡ q.span.to → p ≡ q
same_piece p q x f t = ap (λ k. piece k p.span.from p.span.to) x ∙ ap (λ k. piece q.token k p.span.to) f ∙ ap (piece q.token q.span.from) t

same_token : (text : List ℕ) (p q : Piece) → p.span.from ≡ q.span.from → IsToken text p → IsToken text q → p ≡ q
same_token text p q e a b =
    let moved : IsLongest p.span.from (drop p.span.from text) q.token (q.span.to - p.span.from) = subst (λ n. IsLongest n (drop n text) q.token (q.span.to - n)) (sym e) b.longest in
    let one = one_longest p.span.from (drop p.span.from text) p.token q.token (p.span.to - p.span.from) (q.span.to - p.span.from) a.longest moved in
    same_piece p q one.0 e (omega (arith, one.1, a.ordered, b.ordered, e))

same_unknown : (text : List ℕ) (p q : Piece) → p.span.from ≡ q.span.from → IsUnknown text p → IsUnknown text q → p ≡ q
same_unknown text p q e a b = same_piece p q (a.token ∙ sym b.token) e (a.end ∙ sym b.end)

-- where a token begins, it is no longer true that none does
known : (text : List ℕ) (p q : Piece) → p.span.from ≡ q.span.from → IsToken text p → IsUnknown text q → ⊥
known text p q e a b =
    let none : BeginsNone p.span.from (drop p.span.from text) = subst (λ n. BeginsNone n (drop n text)) (sym e) b.none in
    let is_none = none (p.span.to - p.span.from) a.longest.within in
    let is_some = a.longest.spelled in
    cc

not_at_end : (text : List ℕ) (p : Piece) → p.span.from ≡ length text → IsToken text p → ⊥
not_at_end text p e a =
    let size : p.span.to - p.span.from ≡ 0 = omega (arith, a.longest.within, length-drop p.span.from text, e) in
    let spelled = subst (λ n. token_at p.span.from (take n (drop p.span.from text)) ≡ Some p.token) size a.longest.spelled in
    absurd (cc)

same_cons : (p q : Piece) (ps qs : List Piece) → p ≡ q → ps ≡ qs → p ∷ ps ≡ q ∷ qs
same_cons p q ps qs e f = cc

-- the tokens are one
pub one_list : (text : List ℕ) (at : ℕ) (ps qs : List Piece) → AreTokens text at ps → AreTokens text at qs → ps ≡ qs
one_list text at [] [] a b = refl
one_list text at [] (q ∷ qs) a b = ⊎_elim (λ l. absurd (not_at_end text q (b.0 ∙ a) l.0)) (λ r. let within = r.0.within in absurd (omega (arith, b.0, a))) b.1
one_list text at (p ∷ ps) [] a b = ⊎_elim (λ l. absurd (not_at_end text p (a.0 ∙ b) l.0)) (λ r. let within = r.0.within in absurd (omega (arith, a.0, b))) a.1
one_list text at (p ∷ ps) (q ∷ qs) a b =
    let here = a.0 ∙ sym b.0 in
    ⊎_elim
    (λ l. ⊎_elim (λ m. same_cons p q ps qs (same_token text p q here l.0 m.0) (one_list text p.span.to ps qs l.1 (subst (λ n. AreTokens text n qs) (sym (ap (λ (x : Piece). x.span.to) (same_token text p q here l.0 m.0))) m.1))) (λ r. absurd (known text p q here l.0 r.0)) b.1)
    (λ r. ⊎_elim (λ m. absurd (known text q p (sym here) m.0 r.0)) (λ s. same_cons p q ps qs (same_unknown text p q here r.0 s.0) (r.1 ∙ sym s.1)) b.1) a.1

pub one_text_tree : (text : List ℕ) (t u : Tree) → IsTree text t → IsTree text u → t ≡ u
one_text_tree text t u a b =
    let same = one_list text 0 a.pieces b.pieces a.tokens b.tokens in
    one_tree (token_list b.pieces) t u (subst (λ ps. IsExpression (token_list ps) t) same a.expression) b.expression

pub one_bad_byte : (text : List ℕ) (i j : ℕ) → IsBadByte text i → IsBadByte text j → i ≡ j
one_bad_byte text i j a b =
    let same = one_list text 0 a.pieces b.pieces a.tokens b.tokens in
    let token = one_bad_place (token_list b.pieces) a.token b.token (subst (λ ps. IsBadPlace (token_list ps) a.token) same a.bad) b.bad in
    a.place ∙ ap (λ ps. place_of text ps a.token) same ∙ ap (place_of text b.pieces) token ∙ sym b.place

pub tree_or_bad : (text : List ℕ) (t : Tree) (i : ℕ) → IsTree text t → IsBadByte text i → ⊥
tree_or_bad text t i a b =
    let same = one_list text 0 a.pieces b.pieces a.tokens b.tokens in
    b.bad.none t (subst (λ ps. IsExpression (token_list ps) t) same a.expression)
