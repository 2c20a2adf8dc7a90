-- For `laws.rt`: what a host writes is read as it was written.
use Rattle.std.proofs.Common.{◌≡◌, ℕ, ◌+◌, ◌<◌, ◌≤◌, ◌%◌, ◌^◌, Bool, true, false, take, zero, suc, Ok, refl, arith}
use Rattle.std.specs.Prelude.{if◌then◌else◌}
use Rattle.std.specs.Int.{w32, from_le_bytes, to_le_bytes}
use Rattle.std.proofs.lemmas.List.{take_all}
use Rattle.std.proofs.lemmas.Nat.{from_le_bytes-to_le_bytes_2, from_le_bytes-to_le_bytes_4}
use Rattle.std.proofs.lemmas.Bool.{eqb-false, eq-eqb, lt-ltb, le-leb}
use Rattle.nvme_pdu.specs.declared.agreed.Agreed.{Agreed}
use Rattle.nvme_pdu.specs.declared.fields.HostData.{HostData}
use Rattle.nvme_pdu.specs.declared.layout.Head.{Head}
use Rattle.nvme_pdu.specs.declared.kind.Kind.TheVariants.{IcReq, CapsuleCmd, H2cData}
use Rattle.nvme_pdu.specs.Agreeing.{agreed_of}
use Rattle.nvme_pdu.specs.Fields.{host_data}
use Rattle.nvme_pdu.specs.HostPdus.{
  ic_request,
  termination_request,
  command,
  data_header,
  layout_with_data,
  plen,
  FitsData,
  FitsHostData,
}
use Rattle.nvme_pdu.specs.Headers.{flags, digest_bytes}
use Rattle.nvme_pdu.specs.Layouts.{layout_of, head_of, without_data, data_layout, request_layout, termination_layout}
use Rattle.nvme_pdu.specs.Laws as law

abbrev agreed : Bool → Bool → ℕ → Agreed
agreed hd dd k = record { header_digests = hd; data_digests = dd; alignment = k }

-- with data, and without
command-with : (hd dd : Bool) (k pdo n : ℕ) (h : Head) → 72 + digest_bytes hd ≤ pdo → pdo % 4 ≡ 0 → suc n ≤ 8192
    → h.hlen ≡ 72 → h.flags ≡ flags hd dd + 0 → h.pdo ≡ pdo → h.plen ≡ pdo + suc n + digest_bytes dd
    → data_layout CapsuleCmd 72 8192 (agreed hd dd k) h
    ≡ Ok (layout_with_data CapsuleCmd 72 false (agreed hd dd k) pdo (suc n))
unfolding data_layout
command-with false false k pdo n h after aligned short a b c d = grind (arith, eqb-false, eq-eqb, le-leb, lt-ltb)
command-with false true k pdo n h after aligned short a b c d = grind (arith, eqb-false, eq-eqb, le-leb, lt-ltb)
command-with true false k pdo n h after aligned short a b c d = grind (arith, eqb-false, eq-eqb, le-leb, lt-ltb)
command-with true true k pdo n h after aligned short a b c d = grind (arith, eqb-false, eq-eqb, le-leb, lt-ltb)

command-without : (hd dd : Bool) (k pdo : ℕ) (h : Head)
    → h.hlen ≡ 72 → h.flags ≡ flags hd false + 0 → h.plen ≡ 72 + digest_bytes hd
    → data_layout CapsuleCmd 72 8192 (agreed hd dd k) h
    ≡ Ok (layout_with_data CapsuleCmd 72 false (agreed hd dd k) pdo zero)
unfolding data_layout
command-without false dd k pdo h a b d = grind (arith, eqb-false, eq-eqb)
command-without true dd k pdo h a b d = grind (arith, eqb-false, eq-eqb)

plen-fits : (hd dd : Bool) (k header most pdo n : ℕ) → header ≤ 72 → most ≤ 131072 → pdo < 256 → n ≤ most
    → plen header (agreed hd dd k) pdo n < 2 ^ 32
plen-fits false dd k header most pdo zero a b c d = omega arith
plen-fits true dd k header most pdo zero a b c d = omega arith
plen-fits hd false k header most pdo (suc n) a b c d = omega arith
plen-fits hd true k header most pdo (suc n) a b c d = omega arith

plen-is : (header most : ℕ) (a : Agreed) (pdo n : ℕ) → header ≤ 72 → most ≤ 131072 → FitsData header most a pdo n
    → from_le_bytes w32 (to_le_bytes w32 (plen header a pdo n)) ≡ plen header a pdo n
plen-is header most a pdo n small few fits = from_le_bytes-to_le_bytes_4 (plen header a pdo n)
    (plen-fits a.header_digests a.data_digests a.alignment header most pdo n small few fits.byte fits.short)

pub commands_are_read : law.CommandsAreRead
unfolding layout_of command
commands_are_read a pdo zero entry fits long = record {
  layout = command-without a.header_digests a.data_digests a.alignment pdo (head_of (take 8 (command a pdo 0 entry)))
      refl
      refl (plen-is 72 8192 a pdo 0 (omega arith) (omega arith) fits);
  same = take_all 64 entry (omega (arith, long));
}
commands_are_read a pdo (suc n) entry fits long = record {
  layout = command-with a.header_digests a.data_digests a.alignment pdo n
      (head_of (take 8 (command a pdo (suc n) entry))) fits.after fits.aligned fits.short refl refl refl
      (plen-is 72 8192 a pdo (suc n) (omega arith) (omega arith) fits);
  same = take_all 64 entry (omega (arith, long));
}

agreed-is : (hd dd : Bool) (k pdo r : ℕ) → k ≤ 31 → agreed_of (ic_request pdo r (agreed hd dd k)) ≡ Ok (agreed hd dd k)
unfolding agreed_of ic_request
agreed-is false false k pdo r small = grind (arith, le-leb)
agreed-is false true k pdo r small = grind (arith, le-leb)
agreed-is true false k pdo r small = grind (arith, le-leb)
agreed-is true true k pdo r small = grind (arith, le-leb)

request-laid : (pdo r : ℕ) (before a : Agreed) → layout_of before (take 8 (ic_request pdo r a))
    ≡ Ok (without_data IcReq 128 false false)
unfolding layout_of request_layout ic_request
request-laid pdo r before a = refl

pub requests_are_read : law.RequestsAreRead
requests_are_read pdo r before a small = record {
  layout = request-laid pdo r before a;
  agreed = agreed-is a.header_digests a.data_digests a.alignment pdo r small;
}

termination-laid : (n : ℕ) (h : Head) → n ≤ 128 → h.hlen ≡ 24 → h.plen ≡ 24 + n
    → termination_layout h ≡ Ok (law.termination_layout n)
unfolding termination_layout
termination-laid n h small hlen size = grind (arith, le-leb)

pub terminations_are_read : law.TerminationsAreRead
unfolding layout_of termination_request
terminations_are_read given pdo n a f fits small = record {
  layout = termination-laid n (head_of (take 8 (termination_request given pdo n f))) small refl
      (from_le_bytes-to_le_bytes_4 (24 + n) (omega (arith, small)));
  fatal = λ i. record {
    status = from_le_bytes-to_le_bytes_2 f.status fits.status i;
    field = from_le_bytes-to_le_bytes_4 f.field fits.field i;
  };
}

abbrev last : Bool → ℕ
last is_last = if is_last then 4 else 0

data-with : (l hd dd : Bool) (k pdo n : ℕ) (h : Head) → 24 + digest_bytes hd ≤ pdo → pdo % 4 ≡ 0 → suc n ≤ 131072
    → h.hlen ≡ 24 → h.flags ≡ flags hd dd + last l → h.pdo ≡ pdo → h.plen ≡ pdo + suc n + digest_bytes dd
    → data_layout H2cData 24 131072 (agreed hd dd k) h ≡ Ok (layout_with_data H2cData 24 l (agreed hd dd k) pdo (suc n))
unfolding data_layout
data-with false false false k pdo n h after aligned short a b c d = grind (arith, eqb-false, eq-eqb, le-leb, lt-ltb)
data-with false false true k pdo n h after aligned short a b c d = grind (arith, eqb-false, eq-eqb, le-leb, lt-ltb)
data-with false true false k pdo n h after aligned short a b c d = grind (arith, eqb-false, eq-eqb, le-leb, lt-ltb)
data-with false true true k pdo n h after aligned short a b c d = grind (arith, eqb-false, eq-eqb, le-leb, lt-ltb)
data-with true false false k pdo n h after aligned short a b c d = grind (arith, eqb-false, eq-eqb, le-leb, lt-ltb)
data-with true false true k pdo n h after aligned short a b c d = grind (arith, eqb-false, eq-eqb, le-leb, lt-ltb)
data-with true true false k pdo n h after aligned short a b c d = grind (arith, eqb-false, eq-eqb, le-leb, lt-ltb)
data-with true true true k pdo n h after aligned short a b c d = grind (arith, eqb-false, eq-eqb, le-leb, lt-ltb)

data-without : (l hd dd : Bool) (k pdo : ℕ) (h : Head)
    → h.hlen ≡ 24 → h.flags ≡ flags hd false + last l → h.plen ≡ 24 + digest_bytes hd
    → data_layout H2cData 24 131072 (agreed hd dd k) h ≡ Ok (layout_with_data H2cData 24 l (agreed hd dd k) pdo zero)
unfolding data_layout
data-without false false dd k pdo h a b d = grind (arith, eqb-false, eq-eqb)
data-without false true dd k pdo h a b d = grind (arith, eqb-false, eq-eqb)
data-without true false dd k pdo h a b d = grind (arith, eqb-false, eq-eqb)
data-without true true dd k pdo h a b d = grind (arith, eqb-false, eq-eqb)

fields-are : (l : Bool) (a : Agreed) (pdo n : ℕ) (f : HostData) → n ≤ 131072 → FitsHostData f
    → host_data (data_header l a pdo n f) n ≡ Ok f
unfolding host_data data_header
fields-are l a pdo n f short fits = rw (from_le_bytes-to_le_bytes_4 n (omega (arith, short)), eq-eqb n n refl)
    (λ i. Ok (record {
      cid = from_le_bytes-to_le_bytes_2 f.cid fits.cid i;
      tag = from_le_bytes-to_le_bytes_2 f.tag fits.tag i;
      offset = from_le_bytes-to_le_bytes_4 f.offset fits.offset i;
    }))

pub host_data_are_read : law.HostDataAreRead
unfolding layout_of data_header
host_data_are_read l a pdo zero f fits fields = record {
  layout = data-without l a.header_digests a.data_digests a.alignment pdo (head_of (take 8 (data_header l a pdo 0 f)))
      refl refl (plen-is 24 131072 a pdo 0 (omega arith) (omega arith) fits);
  fields = fields-are l a pdo 0 f fits.short fields;
}
host_data_are_read l a pdo (suc n) f fits fields = record {
  layout = data-with l a.header_digests a.data_digests a.alignment pdo n
      (head_of (take 8 (data_header l a pdo (suc n) f))) fits.after fits.aligned fits.short refl refl refl
      (plen-is 24 131072 a pdo (suc n) (omega arith) (omega arith) fits);
  fields = fields-are l a pdo (suc n) f fits.short fields;
}
