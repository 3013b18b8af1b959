use Rattle.hook_fire.proofs.FiringLemmas.{one_answer}
use Rattle.hook_fire.proofs.laws.the_firing_is_one.Goals as goal

pub returns : goal.returns
returns c = one_answer record {
  outcomes = c.the_rendering_is_one.ensures;
  texts = c.moment_texts_are_one.ensures;
  moments = c.a_text_has_one_moment.ensures.read;
  faults = c.the_fault_is_one.ensures.one;
  sound = c.the_fault_is_one.ensures.none;
}
