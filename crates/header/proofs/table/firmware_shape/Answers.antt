-- `header::table::firmware_shape` meets its contract: each test is a row's by its promise, in the table's order.
use Rattle.header.specs.Table.{firmware_shape}
use Rattle.header.proofs.Rows.{handed_on, row_fails, row_passes, row_last}
use Rattle.header.proofs.table.firmware_shape.Goals as goal

pub returns-in_err-step : goal.returns-in_err-step
unfolding firmware_shape
returns-in_err-step c = row_fails _ _ c.step.ensures c.firmware_header_cut.ensures c.in_err-step.was (handed_on c.from_residual.ensures)

pub returns-in_err-step-2 : goal.returns-in_err-step-2
unfolding firmware_shape
returns-in_err-step-2 c =
    row_passes _ _ c.step.ensures c.firmware_header_cut.ensures c.in_ok-step.was
    (row_fails _ _ c.step-2.ensures c.firmware_magic_missing.ensures c.in_err-step-2.was (handed_on c.from_residual-in_err-step-2.ensures))

pub returns-in_err-step-3 : goal.returns-in_err-step-3
unfolding firmware_shape
returns-in_err-step-3 c =
    row_passes _ _ c.step.ensures c.firmware_header_cut.ensures c.in_ok-step.was
    (row_passes _ _ c.step-2.ensures c.firmware_magic_missing.ensures c.in_ok-step-2.was
    (row_fails _ _ c.step-3.ensures c.firmware_len_wrong.ensures c.in_err-step-3.was (handed_on c.from_residual-in_err-step-3.ensures)))

pub returns-in_err-step-4 : goal.returns-in_err-step-4
unfolding firmware_shape
returns-in_err-step-4 c =
    row_passes _ _ c.step.ensures c.firmware_header_cut.ensures c.in_ok-step.was
    (row_passes _ _ c.step-2.ensures c.firmware_magic_missing.ensures c.in_ok-step-2.was
    (row_passes _ _ c.step-3.ensures c.firmware_len_wrong.ensures c.in_ok-step-3.was
    (row_fails _ _ c.step-4.ensures c.first_chunk_has_no_room.ensures c.in_err-step-4.was (handed_on c.from_residual-in_err-step-4.ensures))))

pub returns-in_err-step-5 : goal.returns-in_err-step-5
unfolding firmware_shape
returns-in_err-step-5 c =
    row_passes _ _ c.step.ensures c.firmware_header_cut.ensures c.in_ok-step.was
    (row_passes _ _ c.step-2.ensures c.firmware_magic_missing.ensures c.in_ok-step-2.was
    (row_passes _ _ c.step-3.ensures c.firmware_len_wrong.ensures c.in_ok-step-3.was
    (row_passes _ _ c.step-4.ensures c.first_chunk_has_no_room.ensures c.in_ok-step-4.was
    (row_fails _ _ c.step-5.ensures c.code_len_wrong.ensures c.in_err-step-5.was (handed_on c.from_residual-in_err-step-5.ensures)))))

pub returns : goal.returns
unfolding firmware_shape
returns c =
    row_passes _ _ c.step.ensures c.firmware_header_cut.ensures c.in_ok-step.was
    (row_passes _ _ c.step-2.ensures c.firmware_magic_missing.ensures c.in_ok-step-2.was
    (row_passes _ _ c.step-3.ensures c.firmware_len_wrong.ensures c.in_ok-step-3.was
    (row_passes _ _ c.step-4.ensures c.first_chunk_has_no_room.ensures c.in_ok-step-4.was
    (row_passes _ _ c.step-5.ensures c.code_len_wrong.ensures c.in_ok-step-5.was
    (row_last _ c.step-6.ensures c.firmware_bytes_not_zero.ensures)))))
