-- The law of a machine: what its entries do to its state. A labelled transition system, with the questions and replies that its calls carry.
use Rattle.std.specs.Prelude.{List, Option}

-- Q are questions, A answers as the code gives them, S states, E entries of a history, R replies.
pub record Rules (Q A S E R : Type 0) : Type 1 where
  -- the entry may come in this state
  pub lawful : S → E → Type 0
  -- the state after the entry
  pub after : S → E → S
  -- what the entry replies in this state, where it is a call
  pub reply : S → E → Option R
  -- what was asked, where the entry is a call
  pub asked : E → Option Q
  -- the entries of an ask before its call, which the answer tells
  pub ticks : S → Q → A → List E
  -- the reply that an answer carries
  pub told : A → R
