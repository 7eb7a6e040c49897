-- Each call of the library that others link has one outcome.
-- Assumes nothing.
use Rattle.std.proofs.Common.{sym, ◌∙◌}
use Rattle.std.specs.Prelude.{[], ◌∷◌}
use Rattle.exports.proofs as exports
use Rattle.once.specs.Law.{One, first, second, third, fourth, fifth, sixth}
use Rattle.once.specs.Forms.{calls, fills}

pub spc700_step_once : One exports.spc700_step.Reads.Post (λ κ e. first e ∷ third e ∷ fourth e ∷ fifth e ∷ [])
spc700_step_once = record { same = calls }

pub spc700_run_once : One exports.spc700_run.Reads.Post (λ κ e. first e ∷ fourth e ∷ fifth e ∷ sixth e ∷ [])
spc700_run_once = record { same = calls }

pub spc700_wake_once : One exports.spc700_wake.Reads.Post (λ κ. first)
spc700_wake_once = record { same = fills }

pub spc700_counts_once : One exports.spc700_counts.Reads.Post (λ κ. third)
spc700_counts_once = record { same = fills }

pub spc700_differences_once : One exports.spc700_differences.Reads.Post (λ κ. fifth)
spc700_differences_once = record { same = fills }

pub spc700_blank_once : One exports.spc700_blank.Reads.Post (λ κ. first)
spc700_blank_once = record { same = fills }

pub spc700_text_once : One exports.spc700_text.Reads.Post (λ κ. second)
spc700_text_once = record { same = λ p q. (p.0 ∙ sym q.0, p.1 ∙ sym q.1) }

pub spc700_file_read_once : One exports.spc700_file_read.Reads.Post (λ κ. second)
spc700_file_read_once = record { same = fills }

pub spc700_file_write_once : One exports.spc700_file_write.Reads.Post (λ κ. first)
spc700_file_write_once = record { same = fills }

pub spc700_file_from_record_once : One exports.spc700_file_from_record.Reads.Post (λ κ. first)
spc700_file_from_record_once = record { same = fills }

pub spc700_record_from_file_once : One exports.spc700_record_from_file.Reads.Post (λ κ. first)
spc700_record_from_file_once = record { same = fills }
