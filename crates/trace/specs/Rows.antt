-- Rows of a trace: kinds and their words, the fields that a kind uses, numbers, and the row that a record stands for. The crates `trace_fields`
-- and `trace_numbers` define them.
pub use Rattle.trace_fields.specs.Rows.{kind_words, kind_of, header_names, range_used, file_used, message_used, none_used, used_table}
unfoldable pub use Rattle.trace_fields.specs.Rows.{word_of, same_fields, used_by, row_of}
pub use Rattle.trace_numbers.specs.Numbers.{is_plain, value, is_number, field}
unfoldable pub use Rattle.trace_numbers.specs.Numbers.{all_digits, starts_plain, value_from, number_below}
