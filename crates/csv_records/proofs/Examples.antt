-- The examples of RFC 4180, section 2, read by the definitions.
use Rattle.std.proofs.Common.{ℕ, ◌≡◌, refl, List, [], ◌∷◌}
use Rattle.csv_field.specs.FieldReading.{field_at, quoted_to, quotes, after_quote, after_cr, stop_of, text_length, is_text, is_quoted}
use Rattle.csv_content.specs.Content.{content_of, undouble}
use Rattle.csv_records.specs.Reading.{Records, all_read, records, records_from, on_found, read_at, fields_from, on_stop, prepend}

-- all of a text is read, with these records
abbrev read : List (List (List ℕ)) → Records
read rows = record { rows = rows; ending = all_read }

aaa : List ℕ
aaa = 97 ∷ 97 ∷ 97 ∷ []

bbb : List ℕ
bbb = 98 ∷ 98 ∷ 98 ∷ []

ccc : List ℕ
ccc = 99 ∷ 99 ∷ 99 ∷ []

zzz : List ℕ
zzz = 122 ∷ 122 ∷ 122 ∷ []

yyy : List ℕ
yyy = 121 ∷ 121 ∷ 121 ∷ []

xxx : List ℕ
xxx = 120 ∷ 120 ∷ 120 ∷ []

b-line_bb : List ℕ
b-line_bb = 98 ∷ 13 ∷ 10 ∷ 98 ∷ 98 ∷ []

b-quote_bb : List ℕ
b-quote_bb = 98 ∷ 34 ∷ 98 ∷ 98 ∷ []

-- rule 1: each record on a line, ended by CR LF
rule_one : records (97 ∷ 97 ∷ 97 ∷ 44 ∷ 98 ∷ 98 ∷ 98 ∷ 44 ∷ 99 ∷ 99 ∷ 99 ∷ 13 ∷ 10 ∷ 122 ∷ 122 ∷ 122 ∷ 44 ∷ 121 ∷ 121 ∷ 121 ∷ 44 ∷ 120 ∷ 120 ∷ 120 ∷ 13 ∷ 10 ∷ []) 100 ≡ read ((aaa ∷ bbb ∷ ccc ∷ []) ∷ (zzz ∷ yyy ∷ xxx ∷ []) ∷ [])
unfolding records records_from on_found read_at fields_from on_stop prepend field_at quoted_to quotes after_quote after_cr stop_of text_length is_text is_quoted content_of undouble aaa bbb ccc xxx yyy zzz
rule_one = refl

-- rule 2: the last record may lack its line end
rule_two : records (97 ∷ 97 ∷ 97 ∷ 44 ∷ 98 ∷ 98 ∷ 98 ∷ 44 ∷ 99 ∷ 99 ∷ 99 ∷ 13 ∷ 10 ∷ 122 ∷ 122 ∷ 122 ∷ 44 ∷ 121 ∷ 121 ∷ 121 ∷ 44 ∷ 120 ∷ 120 ∷ 120 ∷ []) 100 ≡ read ((aaa ∷ bbb ∷ ccc ∷ []) ∷ (zzz ∷ yyy ∷ xxx ∷ []) ∷ [])
unfolding records records_from on_found read_at fields_from on_stop prepend field_at quoted_to quotes after_quote after_cr stop_of text_length is_text is_quoted content_of undouble aaa bbb ccc xxx yyy zzz
rule_two = refl

-- rule 5: fields may be in quotes
rule_five : records (34 ∷ 97 ∷ 97 ∷ 97 ∷ 34 ∷ 44 ∷ 34 ∷ 98 ∷ 98 ∷ 98 ∷ 34 ∷ 44 ∷ 34 ∷ 99 ∷ 99 ∷ 99 ∷ 34 ∷ 13 ∷ 10 ∷ 122 ∷ 122 ∷ 122 ∷ 44 ∷ 121 ∷ 121 ∷ 121 ∷ 44 ∷ 120 ∷ 120 ∷ 120 ∷ []) 100 ≡ read ((aaa ∷ bbb ∷ ccc ∷ []) ∷ (zzz ∷ yyy ∷ xxx ∷ []) ∷ [])
unfolding records records_from on_found read_at fields_from on_stop prepend field_at quoted_to quotes after_quote after_cr stop_of text_length is_text is_quoted content_of undouble aaa bbb ccc xxx yyy zzz
rule_five = refl

-- rule 6: a line end in quotes is content
rule_six : records (34 ∷ 97 ∷ 97 ∷ 97 ∷ 34 ∷ 44 ∷ 34 ∷ 98 ∷ 13 ∷ 10 ∷ 98 ∷ 98 ∷ 34 ∷ 44 ∷ 34 ∷ 99 ∷ 99 ∷ 99 ∷ 34 ∷ 13 ∷ 10 ∷ 122 ∷ 122 ∷ 122 ∷ 44 ∷ 121 ∷ 121 ∷ 121 ∷ 44 ∷ 120 ∷ 120 ∷ 120 ∷ []) 100 ≡ read ((aaa ∷ b-line_bb ∷ ccc ∷ []) ∷ (zzz ∷ yyy ∷ xxx ∷ []) ∷ [])
unfolding records records_from on_found read_at fields_from on_stop prepend field_at quoted_to quotes after_quote after_cr stop_of text_length is_text is_quoted content_of undouble aaa b-line_bb ccc xxx yyy zzz
rule_six = refl

-- rule 7: two quotes in quotes are one
rule_seven : records (34 ∷ 97 ∷ 97 ∷ 97 ∷ 34 ∷ 44 ∷ 34 ∷ 98 ∷ 34 ∷ 34 ∷ 98 ∷ 98 ∷ 34 ∷ 44 ∷ 34 ∷ 99 ∷ 99 ∷ 99 ∷ 34 ∷ []) 100 ≡ read ((aaa ∷ b-quote_bb ∷ ccc ∷ []) ∷ [])
unfolding records records_from on_found read_at fields_from on_stop prepend field_at quoted_to quotes after_quote after_cr stop_of text_length is_text is_quoted content_of undouble aaa b-quote_bb ccc
rule_seven = refl
