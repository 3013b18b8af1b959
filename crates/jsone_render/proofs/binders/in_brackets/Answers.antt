use Rattle.std.proofs.Common.{Some, None, lit<}
use Rattle.std.proofs.lemmas.Str.Pattern.{strip_prefix_char, strip_suffix_char}
use Rattle.jsone_render.proofs.BinderLemmas.{behind_text, no_bracket, last_bracket}
use Rattle.jsone_render.proofs.binders.in_brackets.Goals as goal

pub returns-in-None-strip_prefix : goal.returns-in-None-strip_prefix
returns-in-None-strip_prefix c =
    no_bracket c.args.word.now c.args.key.now c.in-Some.behind.now (behind_text c.args.word.now c.args.key.now c.in-Some.behind c.in-Some.ensures.cases)
    (strip_prefix_char 40 c.in-Some.behind.now None c.in-None-strip_prefix.ensures.cases (lit< tt))

pub returns-in-Some-strip_prefix : goal.returns-in-Some-strip_prefix
returns-in-Some-strip_prefix c =
    last_bracket c.args.word.now c.args.key.now c.in-Some.behind.now c.in-Some-strip_prefix.within.now c.strip_suffix.result (behind_text c.args.word.now c.args.key.now c.in-Some.behind c.in-Some.ensures.cases)
    (strip_prefix_char 40 c.in-Some.behind.now (Some c.in-Some-strip_prefix.within) c.in-Some-strip_prefix.ensures.cases (lit< tt))
    (strip_suffix_char 41 c.in-Some-strip_prefix.within.now c.strip_suffix.result c.strip_suffix.ensures.cases (lit< tt))
