use Rattle.receiver.proofs.Entries.{entry_copied}
use Rattle.receiver.proofs.Received.entry.Goals as goal

pub returns : goal.returns
returns c = entry_copied _ _ _ _ _ c.to_bytes.ensures c.encoded.ensures c.copy_at.ensures c.copy_at-2.ensures
