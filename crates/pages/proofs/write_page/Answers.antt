-- `write_page` meets its contract: the checks are the definition's, and the line of names and those of the cells stand
-- one after the other.
use mathlib.Core.Path.{◌≡◌, refl, sym, ap, ◌∙◌}
use mathlib.Core.Bool.{true}
use mathlib.Core.List.{List, [], ◌++◌}
use Prim.Native.Nat.{ℕ, ◌+◌, ◌*◌, ◌<◌, ◌≤◌}
use native.Mathlib.Omega.{arith}
use lib.ListN.{length}
use Rattle.std.proofs.lemmas.Result.{err_from_is_err_and}
use Rattle.sheet.proofs.Answer.{accepted_no_fault, refused_by_fault, same_refusal}
use Rattle.sheet.proofs.Answer.{refused_fault as some_fault}
use Rattle.sheet.proofs.Cells.{cells_most}
use Rattle.listing.specs.declared.LabelledSheet.{LabelledSheet}
use Rattle.listing.specs.Labelled.{CanBeListed, grid_of}
use Rattle.listing.specs.Listing.{field}
use Rattle.listing.specs.Steps.{Put}
use Rattle.listing.specs.Writing.{text_into, listing_fault}
use Rattle.listing.proofs.Answers.{no_fault}
use Rattle.listing.proofs.Putting.{put_then, put_whole, put_none, put_nothing, promises}
use Rattle.pages.specs.Line.{page_line, names}
use Rattle.pages.specs.Page.{inside_cells, page_cells, cell_lines, atlas_line, page_text}
use Rattle.pages.specs.Writing.{page_fits, page_into}
use Rattle.pages.proofs.PageLaws.{page_few, below_few}
use Rattle.pages.proofs.Answers.{names_length, page_parts, no_page, page_length, refused_fault, too_wide_lem}
use Rattle.pages.proofs.Answers.{page_into_lem}
use Rattle.pages.proofs.write_page.Goals as goal
use Rattle.pages.proofs.write_page.Goals.{After-count_on_page-count, After-put_line-at, Else-count-eq0, In_ok-listing_fault}
use Rattle.pages.proofs.write_page.Goals.{Else-not-page_fits, Else-out-count}

-- the line of a cell, the cells of a page and its text
abbrev line : LabelledSheet → ℕ → List ℕ
line a = atlas_line (grid_of a) a.areas.now a.labels.now a.basins.now

abbrev on_page : LabelledSheet → ℕ → List ℕ
on_page a k = page_cells k (inside_cells (grid_of a))

abbrev text : LabelledSheet → ℕ → List ℕ
text a k = page_text (grid_of a) a.areas.now a.labels.now a.basins.now k

no-fault-at : (c : In_ok-listing_fault)
    → let a = c.args.sheet in listing_fault (grid_of a) a.areas.now a.labels.now a.basins.now ≡ 0
no-fault-at c = accepted_no_fault _ (sym c.listing_fault.ensures ∙ c.in_ok-listing_fault.was)

listable : (c : In_ok-listing_fault) → CanBeListed c.args.sheet
listable c = no_fault _ _ _ _ _ _ (no-fault-at c)

fits : (c : Else-not-page_fits)
    → let a = c.args.sheet in page_fits (grid_of a) a.areas.now a.labels.now a.basins.now c.args.page ≡ true
fits c = sym c.page_fits.ensures ∙ c.if-not-page_fits.false

into : (c : Else-not-page_fits)
    → let a = c.args.sheet in page_into (grid_of a) a.areas.now a.labels.now a.basins.now c.args.page c.args.out.now
    ≡ text_into (text a c.args.page) c.args.out.now
into c =
    let a = c.args.sheet in
    page_into_lem (grid_of a) a.areas.now a.labels.now a.basins.now c.args.page c.args.out.now
    (no-fault-at (goal.at.Else-not-page_fits c).In_ok-listing_fault) (fits c)

-- few cells are counted
few : (c : Else-count-eq0) → c.count_on_page-count.result ≤ 65536
unfolding inside_cells
few c =
    let a = c.args.sheet in
    let l = listable (goal.at.Else-count-eq0 c).In_ok-listing_fault in
    omega (
      arith,
      c.count_on_page-count.ensures,
      page_few c.args.page (inside_cells (grid_of a)),
      below_few (grid_of a) (a.rows * a.cols),
      cells_most l.rows_most l.cols_most,
    )

-- the page has a cell, and its text a line for each and one of names
some : (c : Else-count-eq0) → 0 < length (on_page c.args.sheet c.args.page)
some c = omega (arith, c.count_on_page-count.ensures, c.if-count-eq0.false)

text-long : (c : Else-count-eq0) → length (text c.args.sheet c.args.page) ≡ 73 * (c.count_on_page-count.result + 1)
text-long c =
    let a = c.args.sheet in
    page_length (grid_of a) a.areas.now a.labels.now a.basins.now c.args.page
    (fits (goal.at.Else-count-eq0 c).Else-not-page_fits) (some c)
    ∙ ap (λ (n : ℕ). 73 * (n + 1)) (sym c.count_on_page-count.ensures)

-- the line of names stands at the start of the buffer
heading : (c : After-put_line-at)
    → Put c.args.out.now c.put_line-at.new.out 0 c.put_line-at.result (page_line names)
unfolding page_line field
heading c = rw c.names_line-names.ensures at c.put_line-at.ensures

pub returns-in_err-listing_fault : goal.returns-in_err-listing_fault
returns-in_err-listing_fault c =
    let a = c.args.sheet in
    let e = sym c.listing_fault.ensures ∙ c.in_err-listing_fault.was in
    let p = err_from_is_err_and c.from_residual.result c.from_residual.ensures.1 in
    let f = promises
    (rw (p.1, p.2, same_refusal (refused_by_fault _ e))
    (refused_fault (grid_of a) a.areas.now a.labels.now a.basins.now c.args.page c.args.out.now refl
    (some_fault _ e))) in
    record { page = f.0; values = f.1 }

pub page_fits-requires : goal.page_fits-requires
page_fits-requires c = listable (goal.at.page_fits-requires c).In_ok-listing_fault

pub returns-then-not-page_fits : goal.returns-then-not-page_fits
returns-then-not-page_fits c =
    let a = c.args.sheet in
    let wide = sym c.page_fits.ensures ∙ c.if-not-page_fits.true in
    let f = promises
    (rw c.numbered.ensures
    (too_wide_lem (grid_of a) a.areas.now a.labels.now a.basins.now c.args.page c.args.out.now
    (no-fault-at (goal.at.returns-then-not-page_fits c).In_ok-listing_fault) wide)) in
    record { page = f.0; values = f.1 }

pub count_on_page-count-requires : goal.count_on_page-count-requires
count_on_page-count-requires c = listable (goal.at.count_on_page-count-requires c).In_ok-listing_fault

pub returns-then-count-eq0 : goal.returns-then-count-eq0
unfolding page_text
returns-then-count-eq0 c =
    let a = c.args.sheet in
    let none = no_page (line a) (on_page a c.args.page) (sym c.count_on_page-count.ensures ∙ c.if-count-eq0.true) in
    let f = promises
    (put_whole [] c.args.out.now (omega arith) (put_nothing c.args.out.now 0)
    ∙ ap (λ (t : List ℕ). text_into t c.args.out.now) (sym none)
    ∙ sym (into (goal.at.returns-then-count-eq0 c).Else-not-page_fits)) in
    record { page = f.0; values = f.1 }

pub overflow_add-count : goal.overflow_add-count
overflow_add-count c = omega (arith, few c)

pub overflow_mul-count : goal.overflow_mul-count
overflow_mul-count c = omega (arith, few c)

pub returns-then-out-count : goal.returns-then-out-count
returns-then-out-count c =
    let short : length c.args.out.now < length (text c.args.sheet c.args.page)
    = omega (arith, text-long (goal.at.returns-then-out-count c).Else-count-eq0) in
    let f = promises
    (rw c.numbered-then-out-count.ensures (put_none _ _ short ∙ sym (into (goal.at.returns-then-out-count c).Else-not-page_fits))) in
    record { page = f.0; values = f.1 }

pub put_cells-requires : goal.put_cells-requires
put_cells-requires c = (
  listable (goal.at.put_cells-requires c).In_ok-listing_fault,
  fits (goal.at.put_cells-requires c).Else-not-page_fits,
  omega (
    arith,
    (heading (goal.at.put_cells-requires c).After-put_line-at).next_is,
    names_length,
    c.put_line-at.auto.out,
    c.count_on_page-count.ensures,
    c.if-out-count.false,
  ),
)

pub returns : goal.returns
unfolding page_text
returns c =
    let a = c.args.sheet in
    let p = (goal.at.returns c).Else-count-eq0 in
    let parts = page_parts (line a) (on_page a c.args.page) (some p) in
    let long : length (text a c.args.page) ≤ length c.args.out.now =
    omega (arith, text-long p, c.if-out-count.false) in
    let room : length (page_line names ++ cell_lines (line a) (on_page a c.args.page)) ≤ length c.args.out.now =
    rw parts at long in
    let from-0 : 0 + length (page_line names ++ cell_lines (line a) (on_page a c.args.page)) ≤ length c.args.out.now =
    omega (arith, room) in
    let f = promises
    (put_whole _ _ room (put_then (heading (goal.at.returns c).After-put_line-at) c.put_cells.ensures from-0)
    ∙ ap (λ (t : List ℕ). text_into t c.args.out.now) (sym parts)
    ∙ sym (into (goal.at.returns c).Else-not-page_fits)) in
    record { page = f.0; values = f.1 }
