-- The definition's configuration of a `Config`.
use Rattle.nvme_spec.specs.declared.config.Config.{Config}
use Rattle.nvme_spec.specs.Configuration.{Configuration}

abbrev pub configuration : Config → Configuration
configuration c = record {
  controllers = c.controllers.items;
  namespaces = c.namespaces.items;
  attached = c.attached.items;
}
