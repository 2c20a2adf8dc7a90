use Rattle.nvme_fleet.proofs.opening.rooms_of.Goals as goal

-- a copied byte is the byte
pub returns-clause-buffer : goal.returns-clause-buffer
returns-clause-buffer c = c.in_ok-vec.ensures.items_if_clones_equal (λ y h. h)
