-- For the private writers of the listing.
use Rattle.std.specs.Prelude.{◌≡◌, List, ℕ, ◌+◌, ◌<◌, ◌≤◌, length, take, cond, eqb}
use Rattle.std.proofs.lemmas.List.Edits.{sets}
use Rattle.session.specs.declared.Run.{Run}
use Rattle.report.specs.Listing.{bad_text, listing_text}
use Rattle.report.specs.declared.page.Page.{Page}

-- n bytes more keep the place below 65,536
abbrev pub HasRoom : Page → ℕ → Type 0
HasRoom p n = p.at + n < 65536

-- x, of at most n bytes, was put on the page, as far as its buffer goes
pub record Wrote (n : ℕ) (old : Page) (x : List ℕ) (new : Page) : Type 0 where
  pub bytes : new.out.now ≡ sets old.out.now old.at x
  pub behind : new.at ≡ old.at + length x
  pub within : length x ≤ n
  pub same_buffer : new.out.ghost_name ≡ old.out.ghost_name

-- of a run: the listing of the session that it is the run of
unfoldable pub run_text : Run → List ℕ
run_text r = cond (eqb r.number 0) (listing_text (take r.count r.steps) r.book) bad_text
