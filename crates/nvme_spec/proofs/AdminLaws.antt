-- Proofs of the laws in `laws/admin.rt`.
use Rattle.std.proofs.Common.{
  ◌≡◌,
  ◌⊎◌,
  ℕ,
  ◌==◌,
  Bool,
  true,
  false,
  cond,
  List,
  [],
  ◌∷◌,
  map,
  Option,
  None,
  Some,
  Ok,
  Err,
  inl,
  inr,
  refl,
  sym,
  ap,
  ◌∙◌,
}
use Rattle.std.specs.Prelude.{find, option_map, if◌then◌else◌}
use Rattle.nvme_wire.specs.Submission.{opcode, nsid}
use Rattle.nvme_wire.specs.declared.status.Status.{Status}
use Rattle.nvme_spec.specs.declared.access.Protection.{Protection}
use Rattle.nvme_spec.specs.declared.command.AdminCommand.{AdminCommand}
use Rattle.nvme_spec.specs.declared.command.AdminCommand.TheVariants.{SetFeatures, NamespaceAttachment}
use Rattle.nvme_spec.specs.World.{World, Namespace, namespace_of, with_namespace, with_protection}
use Rattle.nvme_spec.specs.Rules.{Judgement}
use Rattle.nvme_spec.specs.Attachments.{
  AttachmentOutcome,
  unless_refused,
  with_attached,
  without_attached,
  attach,
  detach,
}
use Rattle.nvme_spec.specs.AdminCommands.{command_of, fid, write_protection, wps, protection_of, sel}
use Rattle.nvme_spec.specs.AdminRules.{admin_judgement, data_of}
use Rattle.nvme_spec.specs.AdminEffects.{world_of, world_after, execution_by, admin_execution}
use Rattle.nvme_spec.specs.AdminLaws.{
  besides_protection,
  KeepsAllBut,
  ChangesOnlyProtection,
  KeepsReservations,
  AttachesByCommand,
  DenialsChangeNothing,
}

same : (w : World) → KeepsAllBut w w
same w = record { controllers = refl; namespaces = refl }

-- write protection

protected-alike : (b : Protection) (n : ℕ) (ns : List Namespace)
    → map besides_protection (with_namespace (λ m. record m { protection = b }) n ns) ≡ map besides_protection ns
protected-alike b n [] = refl
protected-alike b n (m ∷ ns) =
    elim (m.nsid == n) as (λ t. map besides_protection (if t then (record m { protection = b }) ∷ ns
    else m ∷ with_namespace (λ k. record k { protection = b }) n ns) ≡ map besides_protection (m ∷ ns)) [
      | true ↦ refl
      | false ↦ ap (λ rest. besides_protection m ∷ rest) (protected-alike b n ns)
    ]

keeps-if : (w : World) (t : Bool) (a : World) → KeepsAllBut w a → KeepsAllBut w (if t then a else w)
keeps-if w true a h = h
keeps-if w false a h = same w

-- attachments

by-refusal : (w next : World) (refusal : Option Status)
    → KeepsAllBut w next → KeepsAllBut w (world_of w (unless_refused refusal next))
by-refusal w next None h = h
by-refusal w next (Some why) h = same w

attaching : (w : World) (n : ℕ) (cs : List ℕ) → KeepsAllBut w (world_of w (attach w n cs))
unfolding attach
attaching w n cs = by-refusal w (with_attached w n cs) _ (record { controllers = refl; namespaces = refl })

detaching : (w : World) (n : ℕ) (cs : List ℕ) → KeepsAllBut w (world_of w (detach w n cs))
unfolding detach
detaching w n cs = by-refusal w (without_attached w n cs) _ (record { controllers = refl; namespaces = refl })

either : (w : World) (t : Bool) (a b : AttachmentOutcome) → KeepsAllBut w (world_of w a) → KeepsAllBut w (world_of w b)
    → KeepsAllBut w (world_of w (if t then a else b))
either w true a b h k = h
either w false a b h k = k

-- an allowed command

after : (w : World) (command : AdminCommand) (e sent : List ℕ) → KeepsAllBut w (world_after w command e sent)
unfolding world_after
after w SetFeatures e sent =
    keeps-if w (fid e == write_protection) _
    (record { controllers = refl; namespaces = protected-alike (protection_of (wps e)) (nsid e) w.namespaces })
after w NamespaceAttachment e sent = either w (sel e == 0) _ _ (attaching w (nsid e) _) (detaching w (nsid e) _)
after w command e sent = same w

kept-by : (j : Judgement) (command : Option AdminCommand) (w : World) (cntlid : ℕ) (e window : List ℕ)
    → KeepsAllBut w (execution_by j command w cntlid e window).world
kept-by (Err d) command w cntlid e window = same w
kept-by (Ok u) None w cntlid e window = same w
kept-by (Ok u) (Some command) w cntlid e window = after w command e (data_of window e)

pub changes_only_protection : ChangesOnlyProtection
unfolding admin_execution
changes_only_protection w queues cntlid e window =
    kept-by (admin_judgement w queues cntlid e window) (command_of (opcode e)) w cntlid e window

-- what write protection leaves unchanged

reservation-seen : (n : ℕ) (ns : List Namespace)
    → option_map (λ (m : Namespace). m.reservation) (find (λ m. m.nsid == n) ns)
    ≡ option_map (λ (m : Namespace). m.reservation) (find (λ m. m.nsid == n) (map besides_protection ns))
reservation-seen n [] = refl
reservation-seen n (m ∷ ns) =
    elim (m.nsid == n) as (λ t.
    option_map (λ (k : Namespace). k.reservation) (cond t (Some m) (find (λ k. k.nsid == n) ns))
    ≡ option_map (λ (k : Namespace). k.reservation)
    (cond t (Some (besides_protection m)) (find (λ k. k.nsid == n) (map besides_protection ns)))) [
      | true ↦ refl
      | false ↦ reservation-seen n ns
    ]

pub keeps_reservations : KeepsReservations
unfolding namespace_of
keeps_reservations w queues cntlid e window n =
    reservation-seen n (admin_execution w queues cntlid e window).world.namespaces
    ∙ ap (λ ns. option_map (λ (m : Namespace). m.reservation) (find (λ m. m.nsid == n) ns))
    (changes_only_protection w queues cntlid e window).namespaces
    ∙ sym (reservation-seen n w.namespaces)

-- attachments

attachments-if : (w : World) (t : Bool) (b : Protection) (n : ℕ)
    → (if t then with_protection w n b else w).attachments ≡ w.attachments
attachments-if w true b n = refl
attachments-if w false b n = refl

attached-by : (j : Judgement) (command : Option AdminCommand) (w : World) (cntlid : ℕ) (e window : List ℕ)
    → ((execution_by j command w cntlid e window).world.attachments ≡ w.attachments)
    ⊎ ((command ≡ Some NamespaceAttachment) × (j ≡ Ok tt))
unfolding world_after
attached-by (Err d) command w cntlid e window = inl refl
attached-by (Ok u) None w cntlid e window = inl refl
attached-by (Ok tt) (Some NamespaceAttachment) w cntlid e window = inr (refl, refl)
attached-by (Ok u) (Some SetFeatures) w cntlid e window =
    inl (attachments-if w (fid e == write_protection) (protection_of (wps e)) (nsid e))
attached-by (Ok u) (Some command) w cntlid e window = inl refl

pub attaches_by_command : AttachesByCommand
unfolding admin_execution
attaches_by_command w queues cntlid e window =
    attached-by (admin_judgement w queues cntlid e window) (command_of (opcode e)) w cntlid e window

-- denials

pub denials_change_nothing : DenialsChangeNothing
unfolding admin_execution
denials_change_nothing w queues cntlid e window d h =
    rw h (record { world = refl; memory = refl; change = refl })
