use Rattle.jsone_render.proofs.BinderLemmas.{only_one, only_two, only_three}
use Rattle.jsone_render.proofs.binders.cut.Goals as goal

pub returns-in-None-clause-only : goal.returns-in-None-clause-only
returns-in-None-clause-only c = only_one c.args.inside.now c.in-None.ensures.cases

pub returns-in-None-split_once-clause-only : goal.returns-in-None-split_once-clause-only
returns-in-None-split_once-clause-only c = only_two c.args.inside.now c.in-Some.first c.in-Some.rest c.in-Some.ensures.cases c.in-None-split_once.ensures.cases

pub returns-in-Some-split_once-clause-only : goal.returns-in-Some-split_once-clause-only
returns-in-Some-split_once-clause-only c =
    only_three c.args.inside.now c.in-Some.first c.in-Some.rest c.in-Some-split_once.second c.in-Some-split_once.third c.in-Some.ensures.cases c.in-Some-split_once.ensures.cases
