-- What a writer leaves in the buffer that it is lent.
use Rattle.std.specs.Prelude.{◌≡◌, List, ℕ, ◌+◌, length}
use Rattle.std.proofs.lemmas.List.Edits.{sets}
use Rattle.printing.specs.declared.Page.{Page}

-- its text from place `at` on, as far as the buffer reaches, and every other byte as it was; the place after the text
pub record PutsAt (old : List ℕ) (at : ℕ) (text new : List ℕ) (end : ℕ) : Type 0 where
  pub holds : new ≡ sets old at text
  pub ends : end ≡ at + length text

-- the same on a page, which keeps its buffer
pub record Puts (old : Page) (text : List ℕ) (new : Page) : Type 0 where
  pub writes : PutsAt old.out.now old.at text new.out.now new.at
  pub same_buffer : new.out.ghost_name ≡ old.out.ghost_name
