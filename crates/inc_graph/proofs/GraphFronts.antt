-- Graphs, values and their files are seen from the bytes that they begin.
use Rattle.std.proofs.Common.{◌≡◌, ℕ, ◌^◌, ◌<◌, List, ◌++◌, length, refl, sym, ap, ◌∙◌}
use Rattle.inc_wire.specs.Fits.{FitsList, FitsText}
use Rattle.inc_wire.specs.Forms.{header_form}
use Rattle.inc_wire.specs.FormLaws.{same_header_front, same_split}
use Rattle.inc_wire.specs.Fronts.{HasFronts, list_fronts, made_fronts, number_fronts, pair_fronts, text_fronts}
use Rattle.inc_wire.specs.Readings.{IsTaken}
use Rattle.inc_wire.specs.declared.print.Print.{Print}
use Rattle.inc_graph.specs.declared.node.Node.{Node}
use Rattle.inc_graph.specs.Forms.{FitsCache, FitsEntry, FitsFile, FitsGraph, FitsNode, FitsPrint, HasRanges, IsFileHeader, Parts, cache_form, entry_form, file_form, graph_form, node_form, node_of, parts_of, print_form}

abbrev pub PartsFit : Parts → Type 0
PartsFit p = (p.0 < 256 ^ 1) × (FitsText p.1.0 × (FitsText p.1.1.0 × (FitsPrint p.1.1.1.0 × FitsList (λ r. r < 256 ^ 4) p.1.1.1.1)))

abbrev pub parts_form : Parts → List ℕ
parts_form p = node_form (node_of p)

pub parts_fit : (x : Node) → HasRanges x → PartsFit (parts_of x)
parts_fit x fits = (fits.kind, (fits.module, (fits.name, (fits.print, fits.reads))))

pub ranges_of : (p : Parts) → PartsFit p → HasRanges (node_of p)
ranges_of p fits = record { kind = fits.0; «module» = fits.1.0; name = fits.1.1.0; print = fits.1.1.1.0; reads = fits.1.1.1.1 }

weaker_fronts : {X : Type 0} {P Q : X → Type 0} {form : X → List ℕ} → ((x : X) → Q x → P x) → HasFronts P form → HasFronts Q form
weaker_fronts fits fronts = record { seen = λ x y r s fx fy same. fronts.seen x y r s (fits x fx) (fits y fy) same }

print_fronts : HasFronts FitsPrint print_form
print_fronts = record {
  seen = λ x y r s fx fy same. (let parts = same_split x.0 y.0 r s (fx ∙ sym fy) same in
      record { value = ap (λ (bytes : List ℕ). (let p : Print = record { 0 = bytes } in p)) parts.0; rest = parts.1 });
}

ranges_fronts : HasFronts HasRanges node_form
ranges_fronts = made_fronts node_of parts_of
    (pair_fronts (number_fronts 1) (pair_fronts text_fronts (pair_fronts text_fronts (pair_fronts print_fronts (list_fronts (number_fronts 4))))))
    parts_fit (λ x. refl) (λ x. refl)

node_fronts : HasFronts FitsNode node_form
node_fronts = weaker_fronts (λ x fits. fits.fits) ranges_fronts

graph_fronts : HasFronts FitsGraph graph_form
graph_fronts = weaker_fronts (λ x fits. fits.fits) (list_fronts node_fronts)

entry_fronts : HasFronts FitsEntry entry_form
entry_fronts = pair_fronts (number_fronts 4) text_fronts

cache_fronts : HasFronts FitsCache cache_form
cache_fronts = weaker_fronts (λ x fits. fits.fits) (list_fronts entry_fronts)

header_fronts : HasFronts IsFileHeader header_form
header_fronts = record {
  seen = λ x y r s fx fy same. (let parts = same_header_front x y r s fx.header fy.header same in record { value = parts.0; rest = parts.1 });
}

file_fronts : {X : Type 0} {P : X → Type 0} {form : X → List ℕ} → HasFronts P form → HasFronts (FitsFile P) (file_form form)
file_fronts fronts = weaker_fronts (λ p fits. (fits.header, fits.value)) (pair_fronts header_fronts fronts)

pub graph_file_fronts : HasFronts (FitsFile FitsGraph) (file_form graph_form)
graph_file_fronts = file_fronts graph_fronts

pub cache_file_fronts : HasFronts (FitsFile FitsCache) (file_form cache_form)
cache_file_fronts = file_fronts cache_fronts

-- a print is taken as 32 bytes
pub print_taken : (before front after bytes : List ℕ) → length front ≡ 32 → before ≡ front ++ after → bytes ≡ front → IsTaken FitsPrint print_form before after (record { 0 = bytes })
print_taken before front after bytes long is same = record {
  fits = ap length same ∙ long;
  front = is ∙ ap (λ b. b ++ after) (sym same);
  only = λ y rest fits here. (let parts = same_split y.0 front rest after (fits ∙ sym long) (sym here ∙ is) in
      record { value = ap (λ (b : List ℕ). (let p : Print = record { 0 = b } in p)) (parts.0 ∙ sym same); rest = parts.1 });
}
