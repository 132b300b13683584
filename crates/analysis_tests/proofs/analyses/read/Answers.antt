use Rattle.std.proofs.Common.{rules, ◌≤◌, length}
use Rattle.c_reader.specs.Reading.{ReadsProgram}
use Rattle.analysis_tests.proofs.Reading.{ready}
use Rattle.analysis_tests.proofs.analyses.read.Goals as goal

pub returns : goal.returns
returns g c =
    let read : ReadsProgram c.as_bytes-bytes.result.now c.expect-p.result = search rules in
    let few : length c.expect-p.result.functions ≤ 1000 = search rules in
    ready c.expect-p.result read few
