-- For `laws.rt`: what a controller writes is read as it was written.
use Rattle.std.proofs.Common.{
  ◌≡◌,
  ℕ,
  ◌+◌,
  ◌-◌,
  ◌*◌,
  ◌/◌,
  ◌%◌,
  ◌^◌,
  ◌<◌,
  ◌≤◌,
  Bool,
  true,
  false,
  List,
  take,
  Ok,
  Some,
  refl,
  ap,
  arith,
  subst,
}
use Rattle.std.specs.Prelude.{min, ◌&&◌, if◌then◌else◌, nat_le, nat_lt, Option, None}
use Rattle.std.proofs.Math.Nat.{lt-div-mul-add, mul-mod_left}
use Rattle.std.proofs.lemmas.List.{take_all}
use Rattle.std.proofs.lemmas.Nat.{from_le_bytes-to_le_bytes_2, from_le_bytes-to_le_bytes_4}
use Rattle.std.proofs.lemmas.Bool.{and_parts, eqb-false, eq-eqb, le-leb, ltb-true}
use Rattle.std.proofs.lemmas.Option.{none-some}
use Rattle.nvme_pdu.specs.declared.agreed.Agreed.{Agreed}
use Rattle.nvme_pdu.specs.declared.kind.Kind.TheVariants.{C2hTermReq, C2hData}
use Rattle.nvme_pdu.specs.declared.layout.Head.{Head}
use Rattle.nvme_pdu.specs.declared.writing.Written.{Written}
use Rattle.nvme_pdu.specs.Headers.{flags, digest_bytes}
use Rattle.nvme_pdu.specs.Layouts.{head_of}
use Rattle.nvme_pdu.specs.Reading.{host_layout_of, data_layout, termination_layout}
use Rattle.nvme_pdu.specs.Writing.{
  ic_response,
  response,
  ready,
  controller_data,
  data_written,
  data_plen,
  data_place,
  termination,
}
use Rattle.nvme_pdu.specs.Laws as law

abbrev agreed : Bool → Bool → ℕ → Agreed
agreed hd dd k = record { header_digests = hd; data_digests = dd; alignment = k }

response-laid : (hd dd : Bool) (k : ℕ) (entry : List ℕ)
    → host_layout_of (agreed hd dd k) (take 8 (response (agreed hd dd k) entry).bytes)
    ≡ Ok (response (agreed hd dd k) entry).layout
unfolding host_layout_of response
response-laid false dd k entry = refl
response-laid true dd k entry = refl

pub responses_are_read : law.ResponsesAreRead
unfolding response
responses_are_read a entry long = record {
  layout = response-laid a.header_digests a.data_digests a.alignment entry;
  same = take_all 16 entry (omega (arith, long));
}

ready-laid : (hd dd : Bool) (k cid tag n : ℕ)
    → host_layout_of (agreed hd dd k) (take 8 (ready (agreed hd dd k) cid tag n).bytes)
    ≡ Ok (ready (agreed hd dd k) cid tag n).layout
unfolding host_layout_of ready
ready-laid false dd k cid tag n = refl
ready-laid true dd k cid tag n = refl

pub readies_are_read : law.ReadiesAreRead
unfolding ready
readies_are_read a cid tag n cid-fits tag-fits n-fits = record {
  layout = ready-laid a.header_digests a.data_digests a.alignment cid tag n;
  fields = λ i. record {
    cid = from_le_bytes-to_le_bytes_2 cid cid-fits i;
    tag = from_le_bytes-to_le_bytes_2 tag tag-fits i;
    offset = 0;
    count = from_le_bytes-to_le_bytes_4 n n-fits i;
  };
}

-- the least multiple of a unit that is not below h
multiple-after : (h u : ℕ) → h ≤ (h + (u + 3)) / (u + 4) * (u + 4)
multiple-after h u =
    let q = lt-div-mul-add {a = h + (u + 3)} {b = u + 4} (omega arith) in
    omega (arith, q)

after-header : (hd dd : Bool) (k : ℕ) → 24 + digest_bytes hd ≤ data_place (agreed hd dd k)
after-header hd dd k =
    let unit : 4 * (k + 1) ≡ 4 * k + 4 = omega arith in
    let one : 4 * k + 4 - 1 ≡ 4 * k + 3 = omega arith in
    rw (unit, one) (multiple-after (24 + digest_bytes hd) (4 * k))

data-laid : (hd dd : Bool) (k n unit : ℕ) (h : Head) → 24 + digest_bytes hd ≤ h.pdo → h.pdo % unit ≡ 0
    → unit ≡ 4 * (k + 1) → h.hlen ≡ 24 → h.flags ≡ flags hd dd + 4 → h.plen ≡ n + (h.pdo + digest_bytes dd)
    → data_layout (agreed hd dd k) h ≡ Ok (record {
      kind = C2hData;
      is_last = true;
      header = 24;
      header_digest = hd;
      data_offset = h.pdo;
      data_length = n;
      data_digest = dd;
      length = n + (h.pdo + digest_bytes dd);
    })
data-laid false false k n unit h after aligned is a b d = grind (arith, eqb-false, eq-eqb, le-leb)
data-laid false true k n unit h after aligned is a b d = grind (arith, eqb-false, eq-eqb, le-leb)
data-laid true false k n unit h after aligned is a b d = grind (arith, eqb-false, eq-eqb, le-leb)
data-laid true true k n unit h after aligned is a b d = grind (arith, eqb-false, eq-eqb, le-leb)

written-is-read : (a : Agreed) (cid n : ℕ) → cid < 2 ^ 16 → data_plen a n < 2 ^ 32
    → law.DataIsRead a cid n (data_written a cid n)
unfolding host_layout_of
written-is-read a cid n cid-fits fits = record {
  layout = data-laid a.header_digests a.data_digests a.alignment n (4 * (a.alignment + 1))
      (head_of (take 8 (data_written a cid n).bytes))
      (after-header a.header_digests a.data_digests a.alignment) (mul-mod_left _ (4 * (a.alignment + 1)))
      refl refl refl (from_le_bytes-to_le_bytes_4 (data_plen a n) fits);
  fields = λ i. record {
    cid = from_le_bytes-to_le_bytes_2 cid cid-fits i;
    tag = 0;
    offset = 0;
    count = from_le_bytes-to_le_bytes_4 n (omega (arith, fits)) i;
  };
  all = refl;
}

or-else : Written → Option Written → Written
or-else x None = x
or-else x (Some w) = w

if-some : (b : Bool) (x w : Written) → (if b then Some x else None) ≡ Some w → (b ≡ true) × (x ≡ w)
unfolding or-else
if-some true x w is = (refl, ap (or-else x) is)
if-some false x w is = absurd (none-some w is)

pub data_are_read : law.DataAreRead
unfolding controller_data
data_are_read a cid n w cid-fits is =
    let both = if-some (nat_le a.alignment 31 && nat_lt (data_plen a n) (2 ^ 32)) (data_written a cid n) w is in
    subst (law.DataIsRead a cid n) both.1 (written-is-read a cid n cid-fits (ltb-true _ _ (and_parts _ _ both.0).1))

end-laid : (n : ℕ) (h : Head) → n ≤ 128 → h.hlen ≡ 24 → h.plen ≡ 24 + n
    → termination_layout h ≡ Ok (record {
      kind = C2hTermReq;
      is_last = false;
      header = 24;
      header_digest = false;
      data_offset = 24;
      data_length = n;
      data_digest = false;
      length = 24 + n;
    })
end-laid n h small hlen size = grind (arith, le-leb)

pub ends_are_read : law.EndsAreRead
unfolding host_layout_of termination
ends_are_read a f received fits = record {
  layout = end-laid (min received 128) (head_of (take 8 (termination f received).bytes)) (omega arith) refl
      (from_le_bytes-to_le_bytes_4 (24 + min received 128) (omega arith));
  fatal = λ i. record {
    status = from_le_bytes-to_le_bytes_2 f.status fits.status i;
    field = from_le_bytes-to_le_bytes_4 f.field fits.field i;
  };
}

grant-is : (before : Agreed) (hd dd : Bool) (k : ℕ) → law.GrantIsRead before (agreed hd dd k)
unfolding host_layout_of ic_response
grant-is before false false k = record { layout = refl; granted = refl }
grant-is before false true k = record { layout = refl; granted = refl }
grant-is before true false k = record { layout = refl; granted = refl }
grant-is before true true k = record { layout = refl; granted = refl }

pub grants_are_read : law.GrantsAreRead
grants_are_read before a = grant-is before a.header_digests a.data_digests a.alignment
