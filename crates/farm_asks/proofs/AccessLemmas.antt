-- What a caller may do: it is one, and each caller has it.
use Rattle.std.proofs.Common.{◌≡◌, List, ℕ, Ok, Err, Bor, refl, sym, ap, ◌∙◌, subst}
use Rattle.hawk_auth.proofs.DataLemmas.{IsJson-one}
use Rattle.role_expand.specs.Cycles.{IsAccepted}
use Rattle.role_expand.specs.Roles.{RoleData}
use Rattle.role_expand.proofs.SetLemmas.{closure_is_one, closure_or_more}
use Rattle.scope_sets.specs.declared.sets.ScopeSet.{ScopeSet}
use Rattle.hawk_auth.specs.Access.{Access as Admission, Refusal, Expands, anonymous_scopes}
use Rattle.hawk_auth.specs.Clients.{IsBook}
use Rattle.hawk_auth.proofs.OneAccessLemmas.{access_once}
use Rattle.hawk_auth.proofs.SomeLemmas.{expands, access_some}
use Rattle.farm_asks.specs.declared.access.Access.{Access as Borrowed}
use Rattle.farm_asks.specs.declared.access.Access.TheVariants.{Keeps, Makes, Refused as Turns}
use Rattle.farm_asks.specs.declared.config.Config.{Config}
use Rattle.farm_asks.specs.declared.question.Caller.{Caller}
use Rattle.farm_asks.specs.declared.question.Caller.TheVariants.{Anonymous, Signed}
use Rattle.farm_asks.specs.declared.reply.Answer.{Answer}
use Rattle.farm_asks.specs.Told.{told}
use Rattle.farm_asks.specs.Access.{Access, Has, Refused, head_of, access_by, IsAdmitted, HasAccess}

-- a start list expands in one way
pub expands_once : (roles : List RoleData) (start : List (List ℕ)) (a b : Admission) → Expands roles start a → Expands roles start b → a ≡ b
expands_once roles start (Ok s) (Ok t) p q = ap (λ (x : List (List ℕ)). Ok x) (closure_is_one 10_000 roles start s t p q)
expands_once roles start (Ok s) (Err b) p q = absurd (closure_or_more 10_000 roles start s p q.0)
expands_once roles start (Err a) (Ok t) p q = absurd (closure_or_more 10_000 roles start t q p.0)
expands_once roles start (Err a) (Err b) p q = ap (λ (x : Refusal). Err x) (p.1 ∙ sym q.1)

-- however a caller is let in, it may do one thing
admitted_once : (config : Config) (moment : ℕ) (caller : Caller) (a b : Admission) → IsAdmitted config moment caller a → IsAdmitted config moment caller b → access_by a ≡ access_by b
admitted_once config moment Anonymous a b p q = ap access_by (expands_once config.roles anonymous_scopes a b p q)
admitted_once config moment (Signed credentials) a b p q =
    ap access_by (access_once IsJson-one closure_is_one closure_or_more config.roles config.clients (head_of config credentials) moment p.0 a b p.1 q.1)

-- what a caller may do is one
pub HasAccess-one : (config : Config) (moment : ℕ) (caller : Caller) (a b : Access) → HasAccess config moment caller a → HasAccess config moment caller b → a ≡ b
HasAccess-one config moment caller a b (by, let_in, is) (other, too, same) =
    is ∙ admitted_once config moment caller by other let_in too ∙ sym same

-- each caller has some access, over accepted roles and a book of clients
pub HasAccess-some : (longest : ℕ) (config : Config) (moment : ℕ) (caller : Caller) → IsAccepted longest config.roles → IsBook config.clients → (access : Access) × HasAccess config moment caller access
HasAccess-some longest config moment Anonymous accepted book =
    let some = expands longest config.roles accepted anonymous_scopes in
    (access_by some.0, (some.0, some.1, refl))
HasAccess-some longest config moment (Signed credentials) accepted book =
    let some = access_some longest config.roles accepted config.clients (head_of config credentials) moment in
    (access_by some.0, (some.0, (book, some.1), refl))

-- what is told of scopes that are borrowed or were made holds of those scopes
pub has_kept : (config : Config) (moment : ℕ) (caller : Caller) (access : Borrowed) (scopes : Bor ScopeSet) → access ≡ Keeps scopes → HasAccess config moment caller (told access) → HasAccess config moment caller (Has scopes.now)
has_kept config moment caller access scopes is has = subst (λ (a : Borrowed). HasAccess config moment caller (told a)) is has

pub has_made : (config : Config) (moment : ℕ) (caller : Caller) (access : Borrowed) (scopes : List (List ℕ)) → access ≡ Makes scopes → HasAccess config moment caller (told access) → HasAccess config moment caller (Has scopes)
has_made config moment caller access scopes is has = subst (λ (a : Borrowed). HasAccess config moment caller (told a)) is has

pub has_refused : (config : Config) (moment : ℕ) (caller : Caller) (access : Borrowed) (answer : Answer) → access ≡ Turns answer → HasAccess config moment caller (told access) → HasAccess config moment caller (Refused answer)
has_refused config moment caller access answer is has = subst (λ (a : Borrowed). HasAccess config moment caller (told a)) is has
