-- Clients, beside what their rows say.
use Rattle.std.proofs.Common.{◌≡◌, ℕ, Bool, zero, suc, List, [], ◌∷◌, ◌++◌, Some, None, refl, sym, ap, subst, ◌∙◌}
use Rattle.std.specs.Prelude.{slice_get}
use Rattle.farm_text.specs.DateTime.{IsDateTime}
use Rattle.farm_text.proofs.OneMomentLemmas.{IsDateTime-one}
use Rattle.hawk_auth.specs.Clients.{ClientData}
use Rattle.farm_files.specs.Clients.{ClientText, IsClientFrom, AreClients}

client_is : (c d : ClientData) → c.id ≡ d.id → c.token ≡ d.token → c.scopes ≡ d.scopes → c.expires ≡ d.expires → c.disabled ≡ d.disabled → c ≡ d
client_is c d id token scopes expires disabled =
    let made : List ℕ → List ℕ → List (List ℕ) → ℕ → Bool → ClientData = λ i t s e b. record { id = i; token = t; scopes = s; expires = e; disabled = b } in
    ap (λ x. made x c.token c.scopes c.expires c.disabled) id ∙ ap (λ x. made d.id x c.scopes c.expires c.disabled) token
    ∙ ap (λ x. made d.id d.token x c.expires c.disabled) scopes ∙ ap (λ x. made d.id d.token d.scopes x c.disabled) expires
    ∙ ap (λ x. made d.id d.token d.scopes d.expires x) disabled

client_one : (t : ClientText) (c d : ClientData) → IsClientFrom t c → IsClientFrom t d → c ≡ d
client_one t c d p q =
    client_is c d (p.id ∙ sym q.id) (p.token ∙ sym q.token) (p.scopes ∙ sym q.scopes) (IsDateTime-one c.expires d.expires t.expires p.expires q.expires) (p.disabled ∙ sym q.disabled)

-- rows say one list of clients
pub clients_one : (ts : List ClientText) (cs ds : List ClientData) → AreClients ts cs → AreClients ts ds → cs ≡ ds
clients_one [] [] [] p q = refl
clients_one [] [] (d ∷ ds) p q = absurd q
clients_one [] (c ∷ cs) ds p q = absurd p
clients_one (t ∷ ts) [] ds p q = absurd p
clients_one (t ∷ ts) (c ∷ cs) [] p q = absurd q
clients_one (t ∷ ts) (c ∷ cs) (d ∷ ds) p q = ap (λ x. x ∷ cs) (client_one t c d p.0 q.0) ∙ ap (λ x. d ∷ x) (clients_one ts cs ds p.1 q.1)

-- a client has its row
pub text_at : (ts : List ClientText) (cs : List ClientData) (i : ℕ) (c : ClientData) → AreClients ts cs → slice_get cs i ≡ Some c
    → (t : ClientText) × (slice_get ts i ≡ Some t) × IsClientFrom t c
text_at [] [] i c are at = absurd (let e : None ≡ Some c = at in cc)
text_at [] (d ∷ cs) i c are at = absurd are
text_at (t ∷ ts) [] i c are at = absurd are
text_at (t ∷ ts) (d ∷ cs) zero c are at = (t, refl, let same : d ≡ c = cc in subst (λ x. IsClientFrom t x) same are.0)
text_at (t ∷ ts) (d ∷ cs) (suc i) c are at = text_at ts cs i c are.1 at

-- one more
pub clients_more : (ts : List ClientText) (cs : List ClientData) (t : ClientText) (c : ClientData) → AreClients ts cs → IsClientFrom t c → AreClients (ts ++ t ∷ []) (cs ++ c ∷ [])
clients_more [] [] t c are is = (is, tt)
clients_more [] (d ∷ cs) t c are is = absurd are
clients_more (u ∷ ts) [] t c are is = absurd are
clients_more (u ∷ ts) (d ∷ cs) t c are is = (are.0, clients_more ts cs t c are.1 is)

-- where each row has a moment, there are such clients
pub some_clients : (ts : List ClientText) → ((k : ℕ) (t : ClientText) → slice_get ts k ≡ Some t → ¬ (¬ ((m : ℕ) × IsDateTime m t.expires)))
    → ((cs : List ClientData) → ¬ AreClients ts cs) → ⊥
some_clients [] have none = none [] tt
some_clients (t ∷ ts) have none =
    have 0 t refl
    (λ p. some_clients ts (λ k u e. have (suc k) u e)
    (λ cs are. none (record { id = t.id; token = t.token; scopes = t.scopes; expires = p.0; disabled = t.disabled } ∷ cs)
    (record { id = refl; token = refl; scopes = refl; expires = p.1; disabled = refl }, are)))
