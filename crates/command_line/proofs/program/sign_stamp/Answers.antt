use Rattle.command_line.proofs.program.sign_stamp.Goals as goal

pub returns : goal.returns
returns c = c.with_option.ensures _ (c.with_option-command-2.ensures _ (c.with_option-command.ensures _ c.sign_request.ensures))
