-- Borrowed bytes are equal if their address, length and values are.
use Rattle.std.proofs.Common.{◌≡◌, ◌<◌, ◌^◌}
use Rattle.std.proofs.Math.Bridge.{le_prop}
use mathlib.Core.HLevel.{is_prop→PathP}
use Rattle.nvme_lent.specs.declared.bytes.LentBytes.{LentBytes}

pub same-lent : (a b : LentBytes) → a.at ≡ b.at → a.len ≡ b.len → a.items ≡ b.items → a ≡ b
same-lent a b at len items = λ i. record {
  at = at i;
  len = len i;
  items = items i;
  small = is_prop→PathP (λ j. len j < 2 ^ 63) (λ j. le_prop) a.small b.small i;
}
