use Rattle.model.proofs.Counting.{openings_less_ends_stand, least_and_deepest_make_the_limit}
use Rattle.model.proofs.Limits.{limit_is_of_frames_around, full_places_refuse, empty_frames_do_not_end, frames_are_at_most, elements_are_at_most}
use Rattle.model.proofs.Spaces.{bytes_past_the_space_refuse, text_and_space_make_the_space}
use Rattle.model.proofs.Closing.{closed_documents_refuse, refused_requests_change_nothing, refused_beginnings_write_nothing}
use Rattle.model.proofs.Wrapping.{none_is_wrapped}
use Rattle.model.proofs.laws.laws_of_runs.Goals as goal

pub returns : goal.returns
returns c = record {
  frames = openings_less_ends_stand;
  limit = limit_is_of_frames_around;
  least = least_and_deepest_make_the_limit;
  full = full_places_refuse;
  lacking = empty_frames_do_not_end;
  many_frames = frames_are_at_most;
  many_elements = elements_are_at_most;
  past_space = bytes_past_the_space_refuse;
  space = text_and_space_make_the_space;
  over = closed_documents_refuse;
  nones = none_is_wrapped;
  refused_request = refused_requests_change_nothing;
  refused_beginning = refused_beginnings_write_nothing;
}
