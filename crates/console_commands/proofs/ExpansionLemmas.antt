-- An input has one expansion, or it is refused.
use Rattle.std.proofs.Common.{◌≡◌, ℕ, ◌∙◌, List, inl, inr, ap, sym, subst, arith}
use Rattle.scope_lines.specs.declared.lines.LineFault.TheVariants.{BadLine, NoMemory}
use Rattle.scope_lines.specs.Lines.{lines_text}
use Rattle.scope_lines.proofs.LineLemmas.{lines_are_one, says_not_refused}
use Rattle.role_expand.specs.Roles.{RoleData}
use Rattle.role_expand.specs.Closures.{IsClosure, HasMoreDerivable}
use Rattle.role_expand.proofs.SetLemmas.{closure_is_one, closure_or_more}
use Rattle.console_commands.specs.Expanding.{most_scopes, HasScopes, IsExpansion, IsBadInput}

scopes_are_one : (input : List ℕ) (a b : List (List ℕ)) → HasScopes input a → HasScopes input b → a ≡ b
scopes_are_one input a b first second = lines_are_one input a b first.says.in_text second.says.in_text

pub expansion_is_one : (roles : List RoleData) (input a b : List ℕ) → IsExpansion roles input a → IsExpansion roles input b → a ≡ b
expansion_is_one roles input a b first second =
    let same = scopes_are_one input first.scopes second.scopes first.lines second.lines in
    let closure = subst (λ scopes. IsClosure most_scopes roles scopes first.set) same first.closure in
    let sets = closure_is_one most_scopes roles second.scopes first.set second.set closure second.closure in
    first.text_is ∙ (ap lines_text sets ∙ sym second.text_is)

-- no line of an expanded input is refused
no_bad_line : (line : ℕ) → BadLine line ≡ NoMemory → ⊥
no_bad_line line e = cc

pub expansion_not_refused : (roles : List RoleData) (input text : List ℕ) → IsExpansion roles input text → ¬ IsBadInput roles input
expansion_not_refused roles input text is (inl long) = let short = is.lines.short in absurd (omega (arith, short, long))
expansion_not_refused roles input text is (inr (inl bad)) =
    no_bad_line bad.0 (says_not_refused input is.scopes (BadLine bad.0) is.lines.says bad.1)
expansion_not_refused roles input text is (inr (inr many)) =
    let same = scopes_are_one input many.scopes is.scopes many.lines is.lines in
    closure_or_more most_scopes roles is.scopes is.set is.closure (subst (λ scopes. HasMoreDerivable most_scopes roles scopes) same many.many)
