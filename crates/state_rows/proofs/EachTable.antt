-- The tables of the book are thirteen: a fact of all is one of each.
use Rattle.std.proofs.Common.{◌≡◌, refl, true, false, List, [], ◌∷◌, ◌++◌}
use Rattle.std.specs.List.{AllByRecursion}
use Rattle.sqlite_schema.specs.declared.schema.Schema.{Schema}
use Rattle.tables.specs.Schema.{BookTable, IsBook, IsOfBook, IsTable, book_tables, first_tables, later_tables}
use Rattle.state_rows.specs.Rows.{StateTable, book, crew, pairing, period, segment, seat, ground_duty, exceedance, request, base, crew_base, outside, outside_segment, is_later, table}

-- ---- A fact of each table

-- of a fact of all, that of one
pub of_first : (P : BookTable → Type 0) → AllByRecursion P first_tables → (a : StateTable) → is_later a ≡ false → P (table a)
of_first P it book early = it.0
of_first P it crew early = it.1.0
of_first P it pairing early = it.1.1.0
of_first P it period early = it.1.1.1.0
of_first P it segment early = it.1.1.1.1.0
of_first P it seat early = it.1.1.1.1.1.0
of_first P it ground_duty early = it.1.1.1.1.1.1.0
of_first P it exceedance early = it.1.1.1.1.1.1.1.0
of_first P it request early = it.1.1.1.1.1.1.1.1.0
of_first P it base early = absurd (cc)
of_first P it crew_base early = absurd (cc)
of_first P it outside early = absurd (cc)
of_first P it outside_segment early = absurd (cc)

pub of_later : (P : BookTable → Type 0) → AllByRecursion P later_tables → (a : StateTable) → is_later a ≡ true → P (table a)
of_later P it base late = it.0
of_later P it crew_base late = it.1.0
of_later P it outside late = it.1.1.0
of_later P it outside_segment late = it.1.1.1.0
of_later P it book late = absurd (cc)
of_later P it crew late = absurd (cc)
of_later P it pairing late = absurd (cc)
of_later P it period late = absurd (cc)
of_later P it segment late = absurd (cc)
of_later P it seat late = absurd (cc)
of_later P it ground_duty late = absurd (cc)
of_later P it exceedance late = absurd (cc)
of_later P it request late = absurd (cc)

-- of a fact of each, that of all
pub all_first : (P : BookTable → Type 0) → ((a : StateTable) → is_later a ≡ false → P (table a)) → AllByRecursion P first_tables
all_first P each =
    (each book refl, (each crew refl, (each pairing refl, (each period refl, (each segment refl, (each seat refl, (each ground_duty refl, (each exceedance refl, (each request refl, tt)))))))))

pub all_later : (P : BookTable → Type 0) → ((a : StateTable) → is_later a ≡ true → P (table a)) → AllByRecursion P later_tables
all_later P each = (each base refl, (each crew_base refl, (each outside refl, (each outside_segment refl, tt))))

-- the tables of version 1, and the later ones
pub by_edition : (P : StateTable → Type 0) → ((a : StateTable) → is_later a ≡ false → P a) → ((a : StateTable) → is_later a ≡ true → P a) → (a : StateTable) → P a
by_edition P early late a = elim (is_later a) as (λ b. is_later a ≡ b → P a) [ false ↦ λ e. early a e | true ↦ λ e. late a e ] refl

pub all_parts : (P : BookTable → Type 0) → (xs ys : List BookTable) → AllByRecursion P (xs ++ ys) → AllByRecursion P xs × AllByRecursion P ys
all_parts P [] ys it = (tt, it)
all_parts P (x ∷ xs) ys it = let more = all_parts P xs ys it.1 in ((it.0, more.0), more.1)

pub all_joined : (P : BookTable → Type 0) → (xs ys : List BookTable) → AllByRecursion P xs → AllByRecursion P ys → AllByRecursion P (xs ++ ys)
all_joined P [] ys one two = two
all_joined P (x ∷ xs) ys one two = (one.0, all_joined P xs ys one.1 two)

-- of a fact of all thirteen, that of one
pub of_all : (P : BookTable → Type 0) → AllByRecursion P book_tables → (a : StateTable) → P (table a)
of_all P it = let parts = all_parts P first_tables later_tables it in by_edition (λ a. P (table a)) (of_first P parts.0) (of_later P parts.1)

pub all_of : (P : BookTable → Type 0) → ((a : StateTable) → P (table a)) → AllByRecursion P book_tables
all_of P each = all_joined P first_tables later_tables (all_first P (λ a _. each a)) (all_later P (λ a _. each a))

pub is_of_book : (schema : Schema) → IsBook schema → (a : StateTable) → IsOfBook (table a) schema
is_of_book schema it = by_edition (λ a. IsOfBook (table a) schema) (of_first (λ t. IsOfBook t schema) it.0) (of_later (λ t. IsOfBook t schema) it.1)

pub is_there : (schema : Schema) → IsBook schema → (a : StateTable) → IsTable (table a) schema
is_there schema it a = (is_of_book schema it a).0

pub is_book : (schema : Schema) → ((a : StateTable) → IsOfBook (table a) schema) → IsBook schema
is_book schema each = (all_first (λ t. IsOfBook t schema) (λ a _. each a), all_later (λ t. IsOfBook t schema) (λ a _. each a))
