pub mod NominateLaws
