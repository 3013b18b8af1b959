-- What the hashers of this crate hold; for private clauses.
use Rattle.std.specs.Prelude.{ℕ, List, ◌++◌}
use Rattle.sha2.specs.Hashers.{Holds256}
use Rattle.hawk_auth.specs.Mac.{masked, key_block}
use Rattle.hawk_auth.specs.declared.hmac.Hmac.{Hmac}

-- the hasher makes the HMAC-SHA-256 under this key of this message
abbrev pub Authenticates : List ℕ → List ℕ → Hmac → Type 0
Authenticates key message h =
    Holds256 h.inner (masked 0x36 (key_block key) ++ message) × Holds256 h.outer (masked 0x5c (key_block key))
