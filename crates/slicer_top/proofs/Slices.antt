-- A text has one slice at a line.
use Rattle.std.proofs.Common.{◌≡◌, ℕ, subst}
use Rattle.c_tree.specs.declared.program.Program.{Program}
use Rattle.c_language.specs.Words.{Bytes}
use Rattle.slice_engine.specs.Slice.{IsSlice}
use Rattle.slice_engine.proofs.OneSlice.{slice_one}
use Rattle.slicer_top.specs.Slices.{IsSliceOf}
use Rattle.slicer_top.proofs.ReaderLaws.{one_program}

pub slice_of_one : (text : Bytes) (line : ℕ) (t u : Bytes) → IsSliceOf text line t → IsSliceOf text line u → t ≡ u
slice_of_one text line t u a b =
    let same : a.program ≡ b.program = one_program text a.program b.program a.reads b.reads in
    slice_one b.program line t u (subst (λ (p : Program). IsSlice p line t) same a.is.slice) b.is.slice
