-- What a host reads over a run of its controller, for the laws.
use Rattle.std.specs.Prelude.{ℕ, ◌<◌, ◌≤◌, not, ◌&&◌, if◌then◌else◌, List, [], ◌∷◌, ◌++◌, map, take}
use Rattle.nvme_notices.specs.declared.notice.NoticeType.{NoticeType}
use Rattle.nvme_notices.specs.declared.notice.Notice.{Notice}
use Rattle.nvme_notices.specs.Keeping.{Notices, type_number, added, taken, is_masked, has_room, with_mask}

-- One step of a controller: a notice occurs, its host reads the log page, or sets the mask of a namespace.
pub data Step : Type 0 where
  Adds : ℕ → NoticeType → Step
  Reads : Step
  Masks : ℕ → ℕ → Step

-- a notice without its count
abbrev pub content : Notice → ℕ × ℕ
content notice = (notice.nsid, notice.kind)

abbrev pub after_step : Notices → Step → Notices
after_step n (Adds nsid kind) = added n nsid kind
after_step n Reads = taken n
after_step n (Masks nsid dw11) = with_mask n nsid dw11

-- what the host reads: the oldest notice, if there is one
abbrev pub read_by : Notices → Step → List (ℕ × ℕ)
read_by n (Adds nsid kind) = []
read_by n Reads = map content (take 1 n.kept)
read_by n (Masks nsid dw11) = []

-- a notice that is kept: it is not masked, and there is room
abbrev pub kept_by : Notices → Step → List (ℕ × ℕ)
kept_by n (Adds nsid kind) =
    if not (is_masked n nsid kind) && has_room n.kept then (nsid, type_number kind) ∷ [] else []
kept_by n Reads = []
kept_by n (Masks nsid dw11) = []

abbrev pub after_run : Notices → List Step → Notices
after_run n [] = n
after_run n (step ∷ steps) = after_run (after_step n step) steps

abbrev pub read_in : Notices → List Step → List (ℕ × ℕ)
read_in n [] = []
read_in n (step ∷ steps) = read_by n step ++ read_in (after_step n step) steps

abbrev pub kept_in : Notices → List Step → List (ℕ × ℕ)
kept_in n [] = []
kept_in n (step ∷ steps) = kept_by n step ++ kept_in (after_step n step) steps

-- the counts of these notices rise, are above `low`, and at most `last`
abbrev pub CountsRise : ℕ → List Notice → ℕ → Type 0
CountsRise low [] last = low ≤ last
CountsRise low (notice ∷ rest) last = (low < notice.count) × CountsRise notice.count rest last

-- the counts rise up to that of the last notice that occurred
abbrev pub IsCounted : Notices → Type 0
IsCounted n = CountsRise 0 n.kept n.count
