use Rattle.command_line.proofs.ReadingLemmas.{read_from, reading_of_matches, refused_by}
use Rattle.command_line.proofs.reading.read_words.Goals as goal

pub returns-in-Ok : goal.returns-in-Ok
returns-in-Ok c =
    read_from _ c.command_of.result _
    (reading_of_matches _ _ c.in-Ok.matches c.in_ok-farm.ensures c.in-Ok.ensures.matches c.in-Ok.ensures.kinds) c.command_of.ensures

pub returns-in-Err : goal.returns-in-Err
returns-in-Err c = refused_by _ _ c.in-Err.error c.told.result c.in_ok-farm.ensures c.in-Err.ensures.kinds c.told.ensures
