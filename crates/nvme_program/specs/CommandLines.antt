-- The words of a command line: the program's name, then an image, then a script; both may be left out.
use Rattle.std.specs.Prelude.{
  ◌≡◌,
  ◌==◌,
  ◌-◌,
  ◌^◌,
  ℕ,
  Bool,
  false,
  nat_lt,
  List,
  [],
  ◌∷◌,
  slice_get,
  drop,
  Option,
  Some,
  None,
  option_map,
  option_and_then,
  if◌then◌else◌,
  codes,
}
use Rattle.std.specs.Option.{option_or}
use Rattle.std.specs.Str.{bytes_eq}
use Rattle.nvme_spec.specs.Limits.{largest_namespace}
use Rattle.nvme_program.specs.declared.command_line.WordFault.{WordFault}
use Rattle.nvme_program.specs.declared.command_line.WordFault.TheVariants.{NoOption, TooMany}
use Rattle.nvme_program.specs.declared.command_line.Paths.{Paths}

-- a word that begins with `-`, and is longer
abbrev pub is_option : List ℕ → Bool
is_option [] = false
is_option (first ∷ []) = false
is_option (first ∷ second ∷ behind) = first == 45

-- why the word with this number is refused, if it is
abbrev pub fault_of_word : ℕ → List ℕ → Option WordFault
fault_of_word number word =
    if is_option word then Some (NoOption number)
    else (if nat_lt 2 number then Some (TooMany number) else None)

abbrev pub fault_at : List (List ℕ) → ℕ → Option WordFault
fault_at words number = option_and_then (fault_of_word number) (slice_get words number)

-- The first refused word after the name. The third word is always refused, so no later one is tested.
abbrev pub word_fault : List (List ℕ) → Option WordFault
word_fault words = option_or (fault_at words 1) (option_or (fault_at words 2) (fault_at words 3))

-- the path of an image; `-` means none
abbrev pub image_path : List ℕ → Option (List ℕ)
image_path word = if bytes_eq word (codes "-") then None else Some word

-- the image, and the script, that a command line names
abbrev pub image_in : List (List ℕ) → Option (List ℕ)
image_in words = option_and_then image_path (slice_get words 1)

abbrev pub script_in : List (List ℕ) → Option (List ℕ)
script_in words = slice_get words 2

-- these are the paths of a command line
pub record AreNamed (paths : Paths) (words : List (List ℕ)) : Type 0 where
  pub image : option_map (λ path. path.now) paths.image ≡ image_in words
  pub script : option_map (λ path. path.now) paths.script ≡ script_in words

-- whether a word is this option
abbrev pub is_this : List ℕ → Option (List ℕ) → Bool
is_this option None = false
is_this option (Some word) = bytes_eq word option

-- whether the first word after the name is `--image`: the image after it is meant as one, whatever it holds
abbrev pub means_image : List (List ℕ) → Bool
means_image words = is_this (codes "--image") (slice_get words 1)

-- the words after it, which then has the place of the name; else all
abbrev pub behind_option : List (List ℕ) → List (List ℕ)
behind_option words = if means_image words then drop 1 words else words

-- whether the first word after the name is `--any-size`: a namespace may have any number of blocks
abbrev pub allows_any_size : List (List ℕ) → Bool
allows_any_size words = is_this (codes "--any-size") (slice_get words 1)

-- the words after it, which then has the place of the name; else all
abbrev pub after_any_size : List (List ℕ) → List (List ℕ)
after_any_size words = if allows_any_size words then drop 1 words else words

-- the most blocks of a namespace
abbrev pub max_blocks_in : List (List ℕ) → ℕ
max_blocks_in words = if allows_any_size words then 2 ^ 64 - 1 else largest_namespace
