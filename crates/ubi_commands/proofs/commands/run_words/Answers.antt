use Rattle.ubi_commands.proofs.RequestsOf.{asked, refused}
use Rattle.ubi_commands.proofs.commands.run_words.Goals as goal

pub returns-in-Err-clause-answer : goal.returns-in-Err-clause-answer
returns-in-Err-clause-answer g c =
    refused c.in_ok-tool_command.field-0 _ c.in_ok-tool_command.ensures.app (g.D.Disk.files c.args.disk.now) c.in-Err.error
    c.wrong_words.result c.in-Err.ensures.kinds c.wrong_words.ensures.answer c.wrong_words.ensures.memory

pub returns-clause-answer : goal.returns-clause-answer
returns-clause-answer g c =
    asked c.in_ok-tool_command.field-0 _ c.in_ok-tool_command.ensures.app (g.D.Disk.files c.args.disk.now)
    (g.D.Disk.files c.run_asked.new.disk) c.in-Ok.matches c.request_of.result c.run_asked.result c.in-Ok.ensures.matches
    c.in-Ok.ensures.kinds c.request_of.ensures c.run_asked.ensures.none c.run_asked.ensures.some
