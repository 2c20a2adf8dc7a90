-- PDUs for C.
use Rattle.std.specs.Prelude.{ℕ, false, List, Option, Some, None, Result, Ok, Err}
use Rattle.nvme_pdu.specs.declared.agreed.Agreed.{Agreed}
use Rattle.nvme_pdu.specs.declared.fatal.Fatal.{Fatal}
use Rattle.nvme_pdu.specs.declared.fields.HostData.{HostData}
use Rattle.nvme_pdu.specs.declared.layout.PduLayout.{PduLayout}
use Rattle.nvme_pdu.specs.declared.writing.Written.{Written}
use Rattle.nvme_pdu.specs.Headers.{number_of}
use Rattle.nvme_tcp_library.specs.declared.pdus.LayoutSeen.{LayoutSeen}
use Rattle.nvme_tcp_library.specs.declared.pdus.PduFields.{PduFields}

-- a fault, or the reason in a termination request, without other fields
abbrev pub no_digests : Agreed
no_digests = record { header_digests = false; data_digests = false; alignment = 0 }

abbrev pub fields_with : ℕ → Fatal → PduFields
fields_with what f = record {
  what = what;
  field = f.field;
  offset = 0;
  status = f.status;
  cid = 0;
  tag = 0;
  agreed = no_digests;
}

-- what an ICReq asks for, or the first field at fault
abbrev pub agreed_seen : Result Agreed Fatal → PduFields
agreed_seen (Ok a) = record { what = 0; field = 0; offset = 0; status = 0; cid = 0; tag = 0; agreed = a }
agreed_seen (Err f) = fields_with 40 f

-- the fields of an H2CData, or the one at fault
abbrev pub data_seen : Result HostData Fatal → PduFields
data_seen (Ok d) = record {
  what = 0;
  field = 0;
  offset = d.offset;
  status = 0;
  cid = d.cid;
  tag = d.tag;
  agreed = no_digests;
}
data_seen (Err f) = fields_with 40 f

-- a layout, or the first field at fault
abbrev pub laid_out : PduLayout → LayoutSeen
laid_out l = record {
  what = 0;
  field = 0;
  length = l.length;
  data_offset = l.data_offset;
  data_length = l.data_length;
  status = 0;
  kind = number_of l.kind;
  header = l.header;
  is_last = l.is_last;
  header_digest = l.header_digest;
  data_digest = l.data_digest;
}

abbrev pub layout_without : ℕ → Fatal → LayoutSeen
layout_without what f = record {
  what = what;
  field = f.field;
  length = 0;
  data_offset = 0;
  data_length = 0;
  status = f.status;
  kind = 0;
  header = 0;
  is_last = false;
  header_digest = false;
  data_digest = false;
}

abbrev pub layout_seen : Result PduLayout Fatal → LayoutSeen
layout_seen (Ok l) = laid_out l
layout_seen (Err f) = layout_without 40 f

-- what is written if there is such a PDU
abbrev pub layout_written : Option Written → LayoutSeen
layout_written None = layout_without 18 (record { status = 0; field = 0 })
layout_written (Some w) = laid_out w.layout

abbrev pub bytes_written : List ℕ → Option Written → List ℕ
bytes_written old None = old
bytes_written old (Some w) = w.bytes
