-- `little_endian::read8` meets its contract.
use Rattle.blocks.proofs.Bytes.{word-from}
use Rattle.blocks.proofs.little_endian.read8.Goals as goal

pub returns : goal.returns
returns c = word-from _ _ _ _ c.from_le_bytes.ensures c.bytes.ensures
