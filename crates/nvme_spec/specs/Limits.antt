-- The limits of this subsystem (Base Specification: Identify Controller, MDTS and NN; Controller Capabilities, MQES;
-- NVM Command Set Specification: LBA formats).
use Rattle.std.specs.Prelude.{ℕ}

-- a logical block, in bytes
abbrev pub block_size : ℕ
block_size = 512

-- a memory page, in bytes
abbrev pub memory_page : ℕ
memory_page = 4096

-- the most blocks of a Read, Write or Compare, and the most bytes of any transfer
abbrev pub most_blocks : ℕ
most_blocks = 256

abbrev pub most_bytes : ℕ
most_bytes = 131072

-- the highest namespace identifier (NN), and the most blocks of a namespace
abbrev pub highest_nsid : ℕ
highest_nsid = 8

abbrev pub largest_namespace : ℕ
largest_namespace = 65536

-- the most controllers, and the most attachments
abbrev pub most_controllers : ℕ
most_controllers = 16

abbrev pub most_attachments : ℕ
most_attachments = 128

-- the highest identifier of an I/O queue, and the fewest and most entries of a queue
abbrev pub highest_queue : ℕ
highest_queue = 4

abbrev pub fewest_entries : ℕ
fewest_entries = 2

abbrev pub most_entries : ℕ
most_entries = 64

-- the most identifiers of a Controller List
abbrev pub longest_controller_list : ℕ
longest_controller_list = 2047
