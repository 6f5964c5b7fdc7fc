use Rattle.std.proofs.Common.{◌++◌, ap, ◌∙◌}
use Rattle.byteorder.specs.Endian.{big_number}
use Rattle.sha2.specs.Sha256.{sha256}
use Rattle.inc_wire.specs.Forms.{job_hash_of, fields_form}
use Rattle.inc_wire.proofs.print.job_hash.Goals as goal

pub returns : goal.returns
unfolding job_hash_of
returns c =
    let header = c.as_slice.ensures.value ∙ c.in_ok-header.ensures in
    let message = ap (λ t. t ++ c.as_slice-2.result.now) header ∙ ap (λ t. fields_form 1 c.args.job.now.compiler c.args.job.now.krate ++ t) c.as_slice-2.ensures.value in
    c.front_number.ensures ∙ ap (λ d. big_number 16 d) (c.digest_of.ensures ∙ ap sha256 message)
