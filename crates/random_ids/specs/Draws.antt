-- The generator of random ids: ChaCha with 12 rounds (D. J. Bernstein, "ChaCha, a variant of Salsa20").
use Rattle.std.specs.Prelude.{◌≡◌, ℕ, List, length}
use Rattle.rand_core.specs.Stream.{Stream}
use Rattle.rand_core.specs.Steps.{stream_of, steps_u32}
use Rattle.rand_chacha.specs.ChaCha.{ChaCha, next_word, of_seed}

-- 32 bytes were its seed, and nothing is drawn of it yet
abbrev pub IsSeeded : ChaCha → Type 0
IsSeeded generator = (seed : List ℕ) × (length seed ≡ 32) × (generator ≡ of_seed seed)

-- all that it will answer: the words of its key stream, of 6 double rounds each
abbrev pub stream : ChaCha → Stream
stream generator = stream_of (steps_u32 (next_word 6)) generator
