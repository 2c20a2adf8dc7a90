-- For the answer of `within` and for scripts: an opened fleet is sound, and is the opening of its configuration.
use Rattle.nvme_fleet.proofs.Words.{
  ◌≡◌,
  ℕ,
  zero,
  suc,
  ◌∷◌,
  ◌∙◌,
  Bool,
  true,
  false,
  List,
  [],
  length,
  map,
  Option,
  None,
  Some,
  refl,
  sym,
  ap,
  subst,
  arith,
  slice_get,
  replicate,
  if◌then◌else◌,
  length-map,
  length-replicate,
  same_Some,
  most_bytes,
  ControllerConfig,
  Device,
  Configuration,
  opening_world,
  Driver,
  new_driver,
  Controller,
  new_controller,
  Subsystem,
  new_mailbox,
  WithDriver,
  Raw,
  new_host,
  opening,
  SoundBy,
  IsSoundFleet,
  host_by,
  hosts_of,
  opening_driver,
  fleet_in,
  fleet_of,
  Fleet,
}
use Rattle.nvme_machine.specs.Subsystems as machine
use Rattle.nvme_refinement.proofs.Opening.{opening_is_sound}

abbrev opening-controllers : List ControllerConfig → List Controller
opening-controllers ks = map (λ (k : ControllerConfig). new_controller k.cntlid) ks

sound-one : (raw : Bool) (n : ℕ) → SoundBy (if raw then None else Some (new_driver 1)) (new_controller n)
sound-one true n = tt
sound-one false n = let o = opening_is_sound 1 n in o.sound

sound-each : (ks : List ControllerConfig) (i : ℕ) (d : Option Driver) (c : Controller)
    → slice_get (map opening_driver ks) i ≡ Some d → slice_get (opening-controllers ks) i ≡ Some c → SoundBy d c
sound-each [] i d c h g = absurd (cc)
sound-each (k ∷ ks) zero d c h g =
    subst (λ p. SoundBy p c) (same_Some _ _ h)
    (subst (SoundBy (opening_driver k)) (same_Some _ _ g) (sound-one k.raw k.cntlid))
sound-each (k ∷ ks) (suc i) d c h g = sound-each ks i d c h g

host-one : (raw : Bool) (n : ℕ) → host_by (if raw then None else Some (new_driver 1)) (new_controller n)
    ≡ (if raw then Raw (new_controller n) else WithDriver (new_mailbox 1))
host-one true n = refl
host-one false n = let o = opening_is_sound 1 n in ap WithDriver o.mail

hosts-each : (ks : List ControllerConfig) → hosts_of (map opening_driver ks) (opening-controllers ks) ≡ map new_host ks
hosts-each [] = refl
hosts-each (k ∷ ks) =
    λ j. (host-one k.raw k.cntlid) j ∷ (hosts-each ks) j

-- over a subsystem that was opened
pub opened-over : (c : Configuration) (v : Device) (s : Subsystem) (ds : List (Option Driver)) (buffer : List ℕ)
    → s ≡ machine.opening c v → ds ≡ map opening_driver c.controllers → buffer ≡ replicate most_bytes 0
    → IsSoundFleet (record { subsystem = s; drivers = ds; buffer = buffer; filled = 0 })
unfolding machine.opening
opened-over c v s ds buffer opened driven room =
    subst (λ x. IsSoundFleet (record { subsystem = x; drivers = ds; buffer = buffer; filled = 0 }))
    (sym opened) (record {
      pairs = ap length driven ∙ length-map c.controllers opening_driver
          ∙ sym (length-map c.controllers (λ (k : ControllerConfig). new_controller k.cntlid));
      sound = subst (λ ys. (i : ℕ) (d : Option Driver) (x : Controller) → slice_get ys i ≡ Some d → slice_get
          (opening-controllers c.controllers) i ≡ Some x → SoundBy d x) (sym driven) (sound-each c.controllers);
      room = ap length room ∙ length-replicate {A = ℕ} most_bytes 0;
      fits = omega arith;
    })

pub opened-mailboxes : (c : Configuration) (v : Device) (s : Subsystem) (ds : List (Option Driver)) (buffer : List ℕ)
    → s ≡ machine.opening c v → ds ≡ map opening_driver c.controllers
    → fleet_of (record { subsystem = s; drivers = ds; buffer = buffer; filled = 0 }) ≡ opening c v
unfolding machine.opening fleet_in opening
opened-mailboxes c v s ds buffer opened driven =
    ap (λ x. fleet_of (record { subsystem = x; drivers = ds; buffer = buffer; filled = 0 })) opened
    ∙ ap (λ hs. (let f : Fleet = record { site = record { world = opening_world c; device = v }; hosts = hs } in f))
    (ap (λ ys. hosts_of ys (opening-controllers c.controllers)) driven ∙ hosts-each c.controllers)
