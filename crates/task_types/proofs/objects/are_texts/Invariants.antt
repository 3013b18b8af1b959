use Rattle.std.proofs.Common.{◌↔◌}
use Rattle.farm_text.specs.Document.{members_of}
use Rattle.farm_text.specs.Doc.{entries_of}
use Rattle.task_types.specs.Maps.{AreTexts}
use Rattle.task_types.proofs.objects.are_texts.Given as goal

abbrev pub invariant-loop-value : goal.invariant-loop-value
invariant-loop-value l = AreTexts (members_of (entries_of l.members.entries)) ↔ AreTexts (members_of (entries_of l.value-iterator))
