-- How contracts see a value over a medium: its state, with the content that the medium reveals, and the medium itself,
-- whose steps say which calls are made.

pub record OverMedium (S M : Type 0) : Type 0 where
  pub state : S
  pub medium : M

-- a state over a medium
abbrev pub over : {S M : Type 0} → S → M → OverMedium S M
over s m = record { state = s; medium = m }
