use Rattle.std.proofs.Common.{◌≡◌, true, false, refl, lit<}
use Rattle.chars.specs.Tables.{Lawful}
use Rattle.chars.specs.Utf8.{decode, encode}
use Rattle.model.specs.States.{Table}
use Rattle.model.proofs.examples.worked_documents.Goals as goal

-- the characters of the names, by the laws of tables
module _ {table : Table} (laws : Lawful table.starts table.continues table.shown) where
  E_continues : table.continues 0x45 ≡ true
  E_continues = laws.ascii_continues 0x45 (lit< tt)

  S_continues : table.continues 0x53 ≡ true
  S_continues = laws.ascii_continues 0x53 (lit< tt)

  o_continues : table.continues 0x6F ≡ true
  o_continues = laws.ascii_continues 0x6F (lit< tt)

  m_continues : table.continues 0x6D ≡ true
  m_continues = laws.ascii_continues 0x6D (lit< tt)

  e_continues : table.continues 0x65 ≡ true
  e_continues = laws.ascii_continues 0x65 (lit< tt)

  S_starts : table.starts 0x53 ≡ true
  S_starts = laws.ascii_starts 0x53 (lit< tt)

  9_continues : table.continues 0x39 ≡ true
  9_continues = laws.ascii_continues 0x39 (lit< tt)

  x_continues : table.continues 0x78 ≡ true
  x_continues = laws.ascii_continues 0x78 (lit< tt)

  9_starts : table.starts 0x39 ≡ false
  9_starts = laws.ascii_starts 0x39 (lit< tt)

  a_continues : table.continues 0x61 ≡ true
  a_continues = laws.ascii_continues 0x61 (lit< tt)

  hyphen_continues : table.continues 0x2D ≡ false
  hyphen_continues = laws.ascii_continues 0x2D (lit< tt)

  b_continues : table.continues 0x62 ≡ true
  b_continues = laws.ascii_continues 0x62 (lit< tt)

  a_starts : table.starts 0x61 ≡ true
  a_starts = laws.ascii_starts 0x61 (lit< tt)

  underscore_continues : table.continues 0x5F ≡ true
  underscore_continues = laws.ascii_continues 0x5F (lit< tt)

-- the rest is computed
pub returns : goal.returns
unfolding decode encode
returns c table laws = record {
  on_lines = record { fit = (tt, (tt, (tt, (tt, tt)))); all_accepted = refl; finishes = refl; written = refl };
  on_one_line = record { fit = (tt, (tt, (tt, (tt, tt)))); all_accepted = refl; finishes = refl; written = refl };
  without_blanks = record { fit = (tt, (tt, (tt, (tt, tt)))); all_accepted = refl; finishes = refl; written = refl };
  told_empty = record { fit = (tt, (tt, tt)); all_accepted = refl; finishes = refl; written = refl };
  empty_untold = record { fit = (tt, (tt, tt)); all_accepted = refl; finishes = refl; written = refl };
  told_empty_with_seven = record { fit = (tt, (tt, (tt, tt))); all_accepted = refl; finishes = refl; written = refl };
  some_some_none = record { fit = (tt, (tt, (tt, (tt, (tt, tt))))); all_accepted = refl; finishes = refl; written = refl };
  some_some_five = record { fit = (tt, (tt, (tt, (tt, (tt, tt))))); all_accepted = refl; finishes = refl; written = refl };
  fourth_opening = record { fit = (tt, (tt, (tt, (tt, tt)))); all_accepted = refl; refused = refl; numbered = refl };
  third_opening = record { fit = (tt, (tt, tt)); all_accepted = refl; refused = refl; numbered = refl };
  raw_text = record { fit = (tt, tt); all_accepted = refl; finishes = refl; written = refl };
  reserved_name = (
    record {
      fit = (tt, tt);
      all_accepted = rw (E_continues laws, S_continues laws, o_continues laws, m_continues laws, e_continues laws, S_starts laws);
      finishes = rw (E_continues laws, S_continues laws, o_continues laws, m_continues laws, e_continues laws, S_starts laws);
      written = rw (E_continues laws, S_continues laws, o_continues laws, m_continues laws, e_continues laws, S_starts laws);
    },
    record {
      fit = (tt, tt);
      all_accepted = rw (S_continues laws, o_continues laws, m_continues laws, e_continues laws, S_starts laws);
      finishes = rw (S_continues laws, o_continues laws, m_continues laws, e_continues laws, S_starts laws);
      written = rw (S_continues laws, o_continues laws, m_continues laws, e_continues laws, S_starts laws);
    },
  );
  digit_first = (
    record {
      fit = (tt, tt);
      all_accepted = rw (E_continues laws, 9_continues laws, x_continues laws, 9_starts laws);
      finishes = rw (E_continues laws, 9_continues laws, x_continues laws, 9_starts laws);
      written = rw (E_continues laws, 9_continues laws, x_continues laws, 9_starts laws);
    },
    record {
      fit = (tt, tt);
      all_accepted = rw (9_continues laws, x_continues laws, 9_starts laws);
      finishes = rw (9_continues laws, x_continues laws, 9_starts laws);
      written = rw (9_continues laws, x_continues laws, 9_starts laws);
    },
  );
  hyphen_inside = (
    record {
      fit = (tt, tt);
      all_accepted = rw (E_continues laws, a_continues laws, hyphen_continues laws, b_continues laws, a_starts laws);
      finishes = rw (E_continues laws, a_continues laws, hyphen_continues laws, b_continues laws, a_starts laws);
      written = rw (E_continues laws, a_continues laws, hyphen_continues laws, b_continues laws, a_starts laws);
    },
    record {
      fit = (tt, tt);
      all_accepted = rw (a_continues laws, hyphen_continues laws, b_continues laws, a_starts laws);
      finishes = rw (a_continues laws, hyphen_continues laws, b_continues laws, a_starts laws);
      written = rw (a_continues laws, hyphen_continues laws, b_continues laws, a_starts laws);
    },
  );
  underscore = (
    record {
      fit = (tt, tt);
      all_accepted = rw (E_continues laws, underscore_continues laws);
      finishes = rw (E_continues laws, underscore_continues laws);
      written = rw (E_continues laws, underscore_continues laws);
    },
    record {
      fit = (tt, tt);
      all_accepted = rw (underscore_continues laws);
      finishes = rw (underscore_continues laws);
      written = rw (underscore_continues laws);
    },
  );
  just_fits = record { fit = (tt, tt); all_accepted = refl; finishes = refl; written = refl };
  one_byte_short = record { fit = tt; all_accepted = refl; refused = refl; numbered = refl };
}
