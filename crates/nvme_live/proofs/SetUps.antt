-- Proof of the law `refusals_name_a_line`: the configuration of a session has the numbers of its lines.
use Rattle.std.proofs.Common.{
  ◌≡◌,
  ◌<◌,
  ◌+◌,
  ℕ,
  zero,
  suc,
  Bool,
  true,
  false,
  List,
  [],
  ◌∷◌,
  ◌++◌,
  length,
  Option,
  None,
  Some,
  refl,
  sym,
  ap,
  subst,
  ◌∙◌,
  arith,
  append_assoc,
  append-nil,
  length-append,
}
use Rattle.std.specs.Prelude.{is_some, if◌then◌else◌, slice_get, option_map}
use Rattle.std.proofs.lemmas.Bool.{false≢true}
use Rattle.nvme_spec.specs.Blocks.{Device}
use Rattle.nvme_spec.specs.Configuration.{Capacity, config_fault}
use Rattle.nvme_spec.specs.declared.config.ConfigFault.{ConfigFault}
use Rattle.nvme_fleet.specs.FleetStates.{Layers}
use Rattle.nvme_grammar.specs.Script.{attachment_in, controller_in, namespace_in}
use Rattle.nvme_grammar.specs.declared.line.Line.{Line}
use Rattle.nvme_grammar.specs.declared.line.Line.TheVariants.{Blank, Controller, Namespace, Attached, Start, Event}
use Rattle.nvme_ns.specs.RefusalLaws.{IsThere}
use Rattle.nvme_ns.proofs.Refusals.{refusal_has_a_reason}
use Rattle.nvme_ns.specs.declared.refusal.SetupLine.{SetupLine}
use Rattle.nvme_ns.specs.declared.refusal.SetupLine.TheVariants as line_of
use Rattle.live_text.specs.declared.asking.Asked.{Asked}
use Rattle.live_text.specs.declared.asking.Asked.TheVariants.{Fails, Nothing, Looks, Parses, Sets, Does}
use Rattle.live_text.specs.Asking.{asked}
use Rattle.nvme_live.specs.SetUps.{Numbers, SetUp, by_number, nothing_set_up, number_of, numbered_by, with_line}
use Rattle.nvme_live.specs.SetUpLaws.{
  IsNumbered,
  IsSettingLine,
  RefusalNamesALine,
  SetUpIsNumbered,
  numbers_from,
  sets_up,
}
use Rattle.nvme_live.specs.Standings.{Standing, Setting, Running, Over, Session, Settles, Starts}

-- After `start` the configuration never changes.
not-set-up : (l : Layers) (s : SetUp) → Running l ≡ Setting s → ⊥
not-set-up l s e = absurd (cc)

module _ (tells : Bool) (size : Capacity) (d : Device) (t : SetUp) where
  running-stays : (lines answers : List (List ℕ)) (n : ℕ) (l : Layers)
      → Session tells size d n (Running l) lines answers (Setting t) → ⊥
  running-stays [] [] n l h = absurd (cc)
  running-stays [] (answer ∷ answers) n l h = h
  running-stays (line ∷ lines) [] n l h = h
  running-stays (line ∷ lines) (answer ∷ answers) n l (mid, (later, h, is), rest) =
      running-stays lines answers (n + 1) later
      (subst (λ (s : Standing). Session tells size d (n + 1) s lines answers (Setting t)) is rest)

  over-stays : (lines answers : List (List ℕ)) (n k : ℕ) (fault : ConfigFault)
      → Session tells size d n (Over k fault) lines answers (Setting t) → ⊥
  over-stays [] [] n k fault h = absurd (cc)
  over-stays [] (answer ∷ answers) n k fault h = h
  over-stays (line ∷ lines) [] n k fault h = h
  over-stays (line ∷ lines) (answer ∷ answers) n k fault h = absurd (h.1)

  started-stays :
      (o : Option ConfigFault) (n : ℕ) (s : SetUp) (answer : List ℕ) (mid : Standing) (lines answers : List (List ℕ))
      → Starts o size d n s answer mid → Session tells size d (n + 1) mid lines answers (Setting t) → ⊥
  started-stays None n s answer mid lines answers (says, is) rest = running-stays lines answers (n + 1) _
      (subst (λ (m : Standing). Session tells size d (n + 1) m lines answers (Setting t)) is rest)
  started-stays (Some fault) n s answer mid lines answers (says, is) rest = over-stays lines answers (n + 1) n fault
      (subst (λ (m : Standing). Session tells size d (n + 1) m lines answers (Setting t)) is rest)

  -- A property of the final configuration, line by line: a line that is not a setup line leaves it, and a setup line
  -- adds to it.
  module _ (Of : ℕ → SetUp → List (List ℕ) → Type 0) (none : (n : ℕ) → Of n t [])
      (passes : (n : ℕ) (s : SetUp) (line : List ℕ) (lines : List (List ℕ)) (q : Asked) → asked line ≡ q
      → ((says : Line) → q ≡ Sets says → ⊥) → Of (n + 1) s lines → Of n s (line ∷ lines))
      (sets : (n : ℕ) (s : SetUp) (line : List ℕ) (lines : List (List ℕ)) (says : Line) → asked line ≡ Sets says
      → Of (n + 1) (with_line n s says) lines → Of n s (line ∷ lines)) where
    by-line : (n : ℕ) (s : SetUp) (line answer : List ℕ) (mid : Standing) (lines answers : List (List ℕ))
        → ((r : SetUp) → mid ≡ Setting r → Of (n + 1) r lines)
        → Session tells size d (n + 1) mid lines answers (Setting t)
        → (q : Asked) → asked line ≡ q → Settles size d n s q answer mid → Of n s (line ∷ lines)
    by-line n s line answer mid lines answers behind rest (Fails why) e h =
        passes n s line lines (Fails why) e (λ says f. absurd (cc)) (behind s h.1)
    by-line n s line answer mid lines answers behind rest Nothing e h =
        passes n s line lines Nothing e (λ says f. absurd (cc)) (behind s h.1)
    by-line n s line answer mid lines answers behind rest (Looks looking) e h =
        passes n s line lines (Looks looking) e (λ says f. absurd (cc)) (behind s h.1)
    by-line n s line answer mid lines answers behind rest (Parses said) e h =
        passes n s line lines (Parses said) e (λ says f. absurd (cc)) (behind s h.1)
    by-line n s line answer mid lines answers behind rest (Does event) e h =
        passes n s line lines (Does event) e (λ says f. absurd (cc)) (behind s h.1)
    by-line n s line answer mid lines answers behind rest (Sets Start) e h =
        absurd (started-stays (config_fault s.configuration size) n s answer mid lines answers h rest)
    by-line n s line answer mid lines answers behind rest (Sets Blank) e h =
        sets n s line lines Blank e (behind (with_line n s Blank) h.1)
    by-line n s line answer mid lines answers behind rest (Sets (Controller k)) e h =
        sets n s line lines (Controller k) e (behind (with_line n s (Controller k)) h.1)
    by-line n s line answer mid lines answers behind rest (Sets (Namespace k)) e h =
        sets n s line lines (Namespace k) e (behind (with_line n s (Namespace k)) h.1)
    by-line n s line answer mid lines answers behind rest (Sets (Attached k m)) e h =
        sets n s line lines (Attached k m) e (behind (with_line n s (Attached k m)) h.1)
    by-line n s line answer mid lines answers behind rest (Sets (Event event)) e h =
        sets n s line lines (Event event) e (behind (with_line n s (Event event)) h.1)

    by-lines : (lines answers : List (List ℕ)) (n : ℕ) (s : SetUp)
        → Session tells size d n (Setting s) lines answers (Setting t) → Of n s lines
    by-lines [] [] n s h = subst (λ (r : SetUp). Of n r []) (same-set t s h) (none n)
      where
        same-set : (a b : SetUp) → Setting a ≡ Setting b → a ≡ b
        same-set a b e = cc
    by-lines [] (answer ∷ answers) n s h = absurd h
    by-lines (line ∷ lines) [] n s h = absurd h
    by-lines (line ∷ lines) (answer ∷ answers) n s (mid, turn, rest) =
        by-line n s line answer mid lines answers
        (λ r is. by-lines lines answers
        (n + 1) r (subst (λ (m : Standing). Session tells size d (n + 1) m lines answers (Setting t)) is rest)) rest
        (asked line) refl turn

  -- the numbers of one kind
  module _ {A : Type 0} (in_line : Line → Option A) (of_kind : Numbers → List ℕ)
      (one : (n : ℕ) (numbers : Numbers) (says : Line)
      → of_kind (numbered_by n numbers says) ≡ of_kind numbers ++ (if is_some (in_line says) then n ∷ [] else [])) where
    abbrev Follow : ℕ → SetUp → List (List ℕ) → Type 0
    Follow n s lines = of_kind t.numbers ≡ of_kind s.numbers ++ numbers_from in_line n lines

    sets-nothing : (q : Asked) → ((says : Line) → q ≡ Sets says → ⊥) → sets_up in_line q ≡ false
    sets-nothing (Fails why) h = refl
    sets-nothing Nothing h = refl
    sets-nothing (Looks looking) h = refl
    sets-nothing (Parses said) h = refl
    sets-nothing (Does event) h = refl
    sets-nothing (Sets says) h = absurd (h says refl)

    one-number : (n : ℕ) (s : SetUp) (line : List ℕ) (lines : List (List ℕ)) (says : Line) (test : Bool)
        → is_some (in_line says) ≡ test → asked line ≡ Sets says → Follow (n + 1) (with_line n s says) lines
        → Follow n s (line ∷ lines)
    one-number n s line lines says true some e h =
        h ∙ ap (λ xs. xs ++ numbers_from in_line (n + 1) lines) (one n s.numbers says ∙ rw some refl)
        ∙ append_assoc (of_kind s.numbers) (n ∷ []) (numbers_from in_line (n + 1) lines)
        ∙ ap (λ xs. of_kind s.numbers ++ xs) (sym (rw e (rw some refl)))
    one-number n s line lines says false some e h =
        h ∙ ap (λ xs. xs ++ numbers_from in_line (n + 1) lines)
        (one n s.numbers says ∙ rw some (append-nil (of_kind s.numbers)))
        ∙ ap (λ xs. of_kind s.numbers ++ xs) (sym (rw e (rw some refl)))

    pub numbers-follow : (lines answers : List (List ℕ)) (n : ℕ) (s : SetUp)
        → Session tells size d n (Setting s) lines answers (Setting t) → Follow n s lines
    numbers-follow =
        by-lines Follow (λ n. sym (append-nil (of_kind t.numbers)))
        (λ n s line lines q e other h.
        h ∙ ap (λ xs. of_kind s.numbers ++ xs) (sym (rw e (rw (sets-nothing q other) refl))))
        (λ n s line lines says e h. one-number n s line lines says (is_some (in_line says)) refl e h)

  -- as many numbers as parts of the configuration
  pub record AreAsMany (s : SetUp) : Type 0 where
    pub controllers : length s.numbers.of_controllers ≡ length s.configuration.controllers
    pub namespaces : length s.numbers.of_namespaces ≡ length s.configuration.namespaces
    pub attachments : length s.numbers.of_attachments ≡ length s.configuration.attached

  both-longer : {A B : Type 0} (xs : List A) (ys : List B) (x : A) (y : B)
      → length xs ≡ length ys → length (xs ++ x ∷ []) ≡ length (ys ++ y ∷ [])
  both-longer xs ys x y e = let a = length-append xs (x ∷ []) in let b = length-append ys (y ∷ []) in
      omega (arith, a, b, e)

  one-more : (n : ℕ) (s : SetUp) (says : Line) → AreAsMany s → AreAsMany (with_line n s says)
  one-more n s Blank h = record { controllers = h.controllers; namespaces = h.namespaces; attachments = h.attachments }
  one-more n s Start h = record { controllers = h.controllers; namespaces = h.namespaces; attachments = h.attachments }
  one-more n s (Event event) h =
      record { controllers = h.controllers; namespaces = h.namespaces; attachments = h.attachments }
  one-more n s (Controller k) h = record {
    controllers = both-longer s.numbers.of_controllers s.configuration.controllers n k h.controllers;
    namespaces = h.namespaces;
    attachments = h.attachments;
  }
  one-more n s (Namespace k) h = record {
    controllers = h.controllers;
    namespaces = both-longer s.numbers.of_namespaces s.configuration.namespaces n k h.namespaces;
    attachments = h.attachments;
  }
  one-more n s (Attached k m) h = record {
    controllers = h.controllers;
    namespaces = h.namespaces;
    attachments = both-longer s.numbers.of_attachments s.configuration.attached n (k, m) h.attachments;
  }

  pub as-many : (lines answers : List (List ℕ)) (n : ℕ) (s : SetUp)
      → Session tells size d n (Setting s) lines answers (Setting t) → AreAsMany s → AreAsMany t
  as-many = by-lines (λ n s lines. AreAsMany s → AreAsMany t) (λ n h. h) (λ n s line lines q e other h many. h many)
      (λ n s line lines says e h many. h (one-more n s says many))

controllers-one : (n : ℕ) (numbers : Numbers) (says : Line) → (numbered_by n numbers says).of_controllers
    ≡ numbers.of_controllers ++ (if is_some (controller_in says) then n ∷ [] else [])
controllers-one n numbers (Controller k) = refl
controllers-one n numbers Blank = sym (append-nil numbers.of_controllers)
controllers-one n numbers Start = sym (append-nil numbers.of_controllers)
controllers-one n numbers (Event event) = sym (append-nil numbers.of_controllers)
controllers-one n numbers (Namespace k) = sym (append-nil numbers.of_controllers)
controllers-one n numbers (Attached k m) = sym (append-nil numbers.of_controllers)

namespaces-one : (n : ℕ) (numbers : Numbers) (says : Line) → (numbered_by n numbers says).of_namespaces
    ≡ numbers.of_namespaces ++ (if is_some (namespace_in says) then n ∷ [] else [])
namespaces-one n numbers (Namespace k) = refl
namespaces-one n numbers Blank = sym (append-nil numbers.of_namespaces)
namespaces-one n numbers Start = sym (append-nil numbers.of_namespaces)
namespaces-one n numbers (Event event) = sym (append-nil numbers.of_namespaces)
namespaces-one n numbers (Controller k) = sym (append-nil numbers.of_namespaces)
namespaces-one n numbers (Attached k m) = sym (append-nil numbers.of_namespaces)

attachments-one : (n : ℕ) (numbers : Numbers) (says : Line) → (numbered_by n numbers says).of_attachments
    ≡ numbers.of_attachments ++ (if is_some (attachment_in says) then n ∷ [] else [])
attachments-one n numbers (Attached k m) = refl
attachments-one n numbers Blank = sym (append-nil numbers.of_attachments)
attachments-one n numbers Start = sym (append-nil numbers.of_attachments)
attachments-one n numbers (Event event) = sym (append-nil numbers.of_attachments)
attachments-one n numbers (Controller k) = sym (append-nil numbers.of_attachments)
attachments-one n numbers (Namespace k) = sym (append-nil numbers.of_attachments)

pub set_up_is_numbered : SetUpIsNumbered
set_up_is_numbered tells size d lines answers s h =
    let many = as-many tells size d s lines answers 1 nothing_set_up h
    (record { controllers = refl; namespaces = refl; attachments = refl }) in record {
      controllers = numbers-follow tells size d s controller_in
          (λ (numbers : Numbers). numbers.of_controllers) controllers-one lines answers 1 nothing_set_up h;
      namespaces = numbers-follow tells size d s namespace_in
          (λ (numbers : Numbers). numbers.of_namespaces) namespaces-one lines answers 1 nothing_set_up h;
      attachments = numbers-follow tells size d s attachment_in
          (λ (numbers : Numbers). numbers.of_attachments) attachments-one lines answers 1 nothing_set_up h;
      each_controller = many.controllers;
      each_namespace = many.namespaces;
      each_attachment = many.attachments;
    }

-- A number in the list is that of a setup line.
found : (xs : List ℕ) (i : ℕ) → i < length xs → (k : ℕ) × (slice_get xs i ≡ Some k)
found [] i below = absurd (omega (arith, below))
found (x ∷ xs) zero below = (x, refl)
found (x ∷ xs) (suc i) below = found xs i (omega (arith, below))

module _ {A : Type 0} (in_line : Line → Option A) where
  says-something : (q : Asked) → sets_up in_line q ≡ true → (says : Line) × (q ≡ Sets says)
  says-something (Sets says) e = (says, refl)
  says-something (Fails why) e = absurd (false≢true e)
  says-something Nothing e = absurd (false≢true e)
  says-something (Looks looking) e = absurd (false≢true e)
  says-something (Parses said) e = absurd (false≢true e)
  says-something (Does event) e = absurd (false≢true e)

  abbrev Placed : ℕ → ℕ → List (List ℕ) → Type 0
  Placed n k lines = (place : ℕ) × (k ≡ n + place) × (line : List ℕ) × (slice_get lines place ≡ Some line)
      × (says : Line) × (asked line ≡ Sets says)

  further : (n k : ℕ) (line : List ℕ) (lines : List (List ℕ)) → Placed (n + 1) k lines → Placed n k (line ∷ lines)
  further n k line lines (place, counted, raw, at, says, sets) =
      (suc place, omega (arith, counted), raw, at, says, sets)

  same-number : (a b : ℕ) → Some a ≡ Some b → a ≡ b
  same-number a b f = cc

  one-line : (line : List ℕ) (lines : List (List ℕ)) (n k : ℕ)
      → ((j : ℕ) → slice_get (numbers_from in_line (n + 1) lines) j ≡ Some k → Placed (n + 1) k lines) → (test : Bool)
      → sets_up in_line (asked line) ≡ test
      → (i : ℕ)
      → slice_get (if test then n ∷ numbers_from in_line (n + 1) lines else numbers_from in_line (n + 1) lines) i
      ≡ Some k → Placed n k (line ∷ lines)
  one-line line lines n k more false none i at = further n k line lines (more i at)
  one-line line lines n k more true some zero at =
      let (says, sets) = says-something (asked line) some in
      (0, omega (arith, same-number n k at), line, refl, says, sets)
  one-line line lines n k more true some (suc i) at = further n k line lines (more i at)

  setting-line : (lines : List (List ℕ)) (n i k : ℕ) → slice_get (numbers_from in_line n lines) i ≡ Some k
      → Placed n k lines
  setting-line [] n i k e = absurd (cc)
  setting-line (line ∷ lines) n i k e =
      one-line line lines n k (λ j at. setting-line lines (n + 1) j k at) (sets_up in_line (asked line)) refl i e

  is-setting : (lines : List (List ℕ)) (i k : ℕ) → slice_get (numbers_from in_line 1 lines) i ≡ Some k
      → IsSettingLine k lines
  is-setting lines i k e =
      let (place, counted, line, at, says, sets) = setting-line lines 1 i k e in
      record { place = place; counted = omega (arith, counted); line = line; at = at; says = says; sets = sets }

pub refusal_names_a_line : RefusalNamesALine
refusal_names_a_line tells size d lines answers s fault h e =
    let numbered = set_up_is_numbered tells size d lines answers s h in
    let (reason, is, there) = refusal_has_a_reason s.configuration size fault e in
    let (k, at, line) = names numbered reason.line there in
    (k, reason.rule, ap (by_number s.numbers) is ∙ ap (option_map (λ n. (n, reason.rule))) at, line)
  where
    names : IsNumbered lines s → (l : SetupLine)
        → IsThere s.configuration l → (k : ℕ) × (number_of s.numbers l ≡ Some k) × IsSettingLine k lines
    names numbered (line_of.Controller i) there =
        let (k, at) = found s.numbers.of_controllers i (omega (arith, there, numbered.each_controller)) in
        (k, at, is-setting controller_in lines i k (ap (λ xs. slice_get xs i) (sym numbered.controllers) ∙ at))
    names numbered (line_of.Namespace i) there =
        let (k, at) = found s.numbers.of_namespaces i (omega (arith, there, numbered.each_namespace)) in
        (k, at, is-setting namespace_in lines i k (ap (λ xs. slice_get xs i) (sym numbered.namespaces) ∙ at))
    names numbered (line_of.Attached i) there =
        let (k, at) = found s.numbers.of_attachments i (omega (arith, there, numbered.each_attachment)) in
        (k, at, is-setting attachment_in lines i k (ap (λ xs. slice_get xs i) (sym numbered.attachments) ∙ at))
