-- For the answer of `locate`: the place of a command's data.
use Rattle.std.proofs.Common.{◌≡◌, ℕ, List, [], length, map, ap, sym, ◌∙◌}
use Rattle.std.specs.List.{range_with_len}
use Rattle.nvme_wire.specs.Submission.{prp1, prp2}
use Rattle.nvme_spec.specs.declared.pointer.Piece.{Piece}
use Rattle.nvme_spec.specs.Pointer.{transfer, address}
use Rattle.nvme_spec.specs.Transfers.{addresses, pieces_of}
use Rattle.nvme_spec.specs.DataRules.{data_addresses, data_transfer}
use Rattle.nvme_spec.proofs.PagesJoined.{joined}

-- the pieces of a walk are the place of the data
pub placed : (window e : List ℕ) (p q bytes : ℕ) (pieces : List Piece) → p ≡ prp1 e → q ≡ prp2 e
    → pieces ≡ pieces_of (transfer window p q bytes) → addresses pieces ≡ data_addresses bytes window e
unfolding data_addresses
placed window e p q bytes pieces p-is q-is is =
    ap addresses is ∙ ap (λ x. addresses (pieces_of (transfer window x q bytes))) p-is
    ∙ ap (λ x. addresses (pieces_of (transfer window (prp1 e) x bytes))) q-is

-- without data there are no pieces
pub nowhere : (window e : List ℕ) (bytes : ℕ) (pieces : List Piece)
    → bytes ≡ 0 → pieces ≡ [] → addresses pieces ≡ data_addresses bytes window e
unfolding data_addresses addresses
nowhere window e bytes pieces none is =
    ap addresses is ∙ sym (joined (data_transfer bytes window e)
    ∙ ap (λ n. map (address (data_transfer bytes window e)) (range_with_len 0 n)) none)

pub no-bytes : (pieces : List Piece) → pieces ≡ [] → length (addresses pieces) ≡ 0
unfolding addresses
no-bytes pieces is = ap (λ ps. length (addresses ps)) is
