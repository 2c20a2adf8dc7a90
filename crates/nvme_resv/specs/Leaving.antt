-- Which registrants an action removes, for the contracts of `expel` and its callers.
use Rattle.std.specs.Prelude.{ℕ, Bool, true, false, not, ◌==◌, ◌&&◌, Option, Some, None}
use Rattle.nvme_spec.specs.declared.access.Registrant.{Registrant}

abbrev pub has_key : Option ℕ → Registrant → Bool
has_key None r = true
has_key (Some key) r = r.key == key

abbrev pub is_host : Option ℕ → Registrant → Bool
is_host None r = false
is_host (Some host) r = r.host == host

-- the registrant has this key (any key if it is `None`), and is not the spared host
abbrev pub leaves_test : Option ℕ → Option ℕ → Registrant → Bool
leaves_test key spared r = has_key key r && not (is_host spared r)
