use Rattle.std.proofs.Common.{inl, rules}
use Rattle.bsc_hub_command.proofs.command.load_text.Goals as goal

pub returns-in-Err-Failed-clause-unread : goal.returns-in-Err-Failed-clause-unread
returns-in-Err-Failed-clause-unread g c = inl (c.read_file.ensures.failed (search rules), c.end_with.ensures.ends)
