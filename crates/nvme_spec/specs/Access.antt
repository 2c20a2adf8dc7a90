-- The access that a reservation gives to hosts, for the rule on reservations (NVM Express Base Specification 2.0,
-- "Reservation Types").
use Rattle.std.specs.Prelude.{ℕ, Bool, true, false, if◌then◌else◌, ◌==◌}
use Rattle.nvme_spec.specs.declared.access.Hold.{Hold}
use Rattle.nvme_spec.specs.declared.access.Hold.TheVariants.{Free, One, All}
use Rattle.nvme_spec.specs.declared.access.Role.{Role}
use Rattle.nvme_spec.specs.declared.access.Role.TheVariants.{Outsider, Registrant, Holder}
use Rattle.nvme_spec.specs.declared.access.Group.{Group}
use Rattle.nvme_spec.specs.declared.access.Group.TheVariants.{Read, Write}

-- the groups of commands that a host may send
pub record Rights : Type 0 where
  pub reads : Bool
  pub writes : Bool

abbrev pub no_access : Rights
no_access = record { reads = false; writes = false }

abbrev pub read_only : Rights
read_only = record { reads = true; writes = false }

abbrev pub read_write : Rights
read_write = record { reads = true; writes = true }

-- a row of the table: the rights of a host that is not registered, of a registrant that is not a holder, and of a
-- holder
pub record Row : Type 0 where
  pub outsider : Rights
  pub registrant : Rights
  pub holder : Rights

abbrev pub row : Rights → Rights → Rights → Row
row outsider_rights registrant_rights holder_rights =
    record { outsider = outsider_rights; registrant = registrant_rights; holder = holder_rights }

-- The table of reservation types: the rights under each. No type is above 6.
--             not registered, registrant, holder
abbrev pub rights_table : ℕ → Row
rights_table type =
    -- Write Exclusive
    if type == 1 then row read_only read_only read_write
    -- Exclusive Access
    else (if type == 2 then row no_access no_access read_write
    -- Write Exclusive - Registrants Only
    else (if type == 3 then row read_only read_write read_write
    -- Exclusive Access - Registrants Only
    else (if type == 4 then row no_access read_write read_write
    -- Write Exclusive - All Registrants
    else (if type == 5 then row read_only read_write read_write
    -- Exclusive Access - All Registrants
    else row no_access read_write read_write))))

abbrev pub rights_of : Row → Role → Rights
rights_of r Outsider = r.outsider
rights_of r Registrant = r.registrant
rights_of r Holder = r.holder

abbrev pub allows : Rights → Group → Bool
allows rights Read = rights.reads
allows rights Write = rights.writes

-- under a reservation of this type
abbrev pub is_permitted_under : ℕ → Role → Group → Bool
is_permitted_under type role group = allows (rights_of (rights_table type) role) group

-- whether a command of this group is permitted to a host in this role; without a reservation every command is
abbrev pub is_permitted : Hold → Role → Group → Bool
is_permitted Free role group = true
is_permitted (One type host) role group = is_permitted_under type role group
is_permitted (All type) role group = is_permitted_under type role group
