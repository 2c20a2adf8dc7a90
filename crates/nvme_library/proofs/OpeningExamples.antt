-- For `examples.rt`: openings, and events on a closed handle, by computing.
use Rattle.std.proofs.Common.{◌≡◌, refl, sym, ap, ◌∙◌, None, Some}
use Rattle.nvme_spec.specs.declared.config.ConfigFault.TheVariants.{BadId, DoesNotFit}
use Rattle.nvme_spec.specs.Configuration.{config_fault, first_config_fault}
use Rattle.std.proofs.lemmas.Option.{none-some}
use Rattle.nvme_lent.specs.OwnOrLent.{lent_of}
use Rattle.nvme_library.specs.Examples.{
  one_block,
  OneBlockOpens,
  NoBlockDoesNotOpen,
  HostlessDoesNotOpen,
  CopyIsNotLent,
  ClosedStaysClosed,
}

accepted : first_config_fault (one_block 5) 1 ≡ None
unfolding config_fault
accepted = refl

too-large : first_config_fault (one_block 5) 0 ≡ Some DoesNotFit
unfolding config_fault
too-large = refl

hostless : first_config_fault (one_block 0) 1 ≡ Some BadId
unfolding config_fault
hostless = refl

pub one_block_opens : OneBlockOpens
one_block_opens m memory is =
    record { on = record { accepted = accepted; state = refl; bytes = is }; memory = memory; over = refl }

pub no_block_does_not_open : NoBlockDoesNotOpen
no_block_does_not_open lent new h = none-some _ (sym h.on.accepted ∙ too-large)

pub hostless_does_not_open : HostlessDoesNotOpen
hostless_does_not_open lent new h = none-some _ (sym h.on.accepted ∙ hostless)

pub copy_is_not_lent : CopyIsNotLent
copy_is_not_lent c bytes new copy is h = none-some _ (sym (ap lent_of is) ∙ h.over)

pub closed_stays_closed : ClosedStaysClosed
closed_stays_closed = record {
  happens = (refl, refl);
  answered = λ answer new h. h.0;
  stays = λ answer new h. h.1;
}
